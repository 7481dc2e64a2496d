-- The value's bytes are split off, and then decoded.
use Rattle.std.proofs.Common.{rules, arith, ◌≡◌, ◌<◌, ℕ, List, [], ◌∷◌, length, refl, subst}
use Rattle.std.proofs.lemmas.Result.{err_from_is_err_and, IfErr-weaker}
use Rattle.bitcode_sealed.specs.Faults.{IsSealedFront}
use Rattle.bitcode_sealed.specs.Opening.{IsDecodingRefusal, IsRefusal, all_not_sealed, bytes_left_over, all_not_decoded}
use Rattle.bitcode_sealed.proofs.values.open.Goals as goal

nothing_left : (xs : List ℕ) → length xs ≡ 0 → xs ≡ []
nothing_left [] h = refl
nothing_left (x ∷ xs) h = absurd (omega (arith, h))

pub returns-in_err-value-clause-refused : goal.returns-in_err-value-clause-refused
returns-in_err-value-clause-refused g c =
    let p = err_from_is_err_and c.from_residual.result c.from_residual.ensures.1 in
    rw (p.1, p.2) (all_not_sealed c.in_err-value.ensures.refused)

pub returns-then-not-is_empty-clause-refused : goal.returns-then-not-is_empty-clause-refused
returns-then-not-is_empty-clause-refused g c =
    let value = c.in_ok-value.value.now in
    let rest = c.in_ok-value.rest.now in
    let front : IsSealedFront c.args.expected.now c.args.bytes.now value rest = search rules in
    let some : 0 < length rest = first_of (search rules, grind arith) in
    bytes_left_over value rest refl front some

pub returns-clause-refused : goal.returns-clause-refused
returns-clause-refused g c =
    let free = g.T.Decoder.Decoder.makes_free in
    let own = g.T.Decoder.HoldsData.shape in
    let shape = g.T.Shaped.data.shape in
    let expected = c.args.expected.now in
    let bytes = c.args.bytes.now in
    let value = c.in_ok-value.value.now in
    let rest = c.in_ok-value.rest.now in
    let at_rest : IsSealedFront expected bytes value rest = search rules in
    let none : length rest ≡ 0 = first_of (search rules, grind arith) in
    let front : IsSealedFront expected bytes value [] = subst (IsSealedFront expected bytes value) (nothing_left rest none) at_rest in
    IfErr-weaker c.decode_value.result (λ e. IsDecodingRefusal free own shape value e) (λ e. IsRefusal free own shape expected bytes e)
    (λ e refusal. all_not_decoded value front refusal) c.decode_value.ensures.refused
