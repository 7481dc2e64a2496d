-- Each step moves a length from what is left to the place.
use Rattle.std.proofs.Common.{◌≡◌, ◌+◌, [], ℕ, All, refl, sym, subst, arith}
use Rattle.std.specs.Str.{IsCharBoundary}
use Rattle.std.proofs.lemmas.List.{nil_from_length}
use Rattle.std.proofs.lemmas.List.Elements.{All-nil, All-cons, All-head, All-tail}
use Rattle.bitcode_coder.specs.JoinedTexts.{ends_from}
use Rattle.bitcode_coder.specs.Length.{lengths_left}
use Rattle.bitcode_coder.proofs.LengthPartLemmas.{taken_from}
use Rattle.bitcode_coder.proofs.str.decoder.ends_at_chars.Goals as goal

pub loop-preserved : goal.loop-preserved
loop-preserved c =
    let P : ℕ → Type 0 = IsCharBoundary c.args.whole.now in
    let n = c.decode-place.result in
    let later = lengths_left c.decode-place.new.self in
    let taken = c.decode-place.ensures.taken in
    let counted = taken_from (lengths_left c.loop.rest) n later taken in
    record {
      summed = omega (arith, counted.0);
      left = omega (arith, counted.1);
      kept = λ rest. c.loop.invariant.kept
          (subst (λ ns. All P (ends_from c.loop.place ns)) (sym taken)
          (All-cons P (c.loop.place + n) (ends_from (c.loop.place + n) later) (c.if-not-is_char_boundary.ensures.test.0 refl) rest));
      broken = λ all.
          All-tail P (c.loop.place + n) (ends_from (c.loop.place + n) later)
          (subst (λ ns. All P (ends_from c.loop.place ns)) taken (c.loop.invariant.broken all));
    }

pub returns-then-not-is_char_boundary : goal.returns-then-not-is_char_boundary
returns-then-not-is_char_boundary c all =
    let P : ℕ → Type 0 = IsCharBoundary c.args.whole.now in
    let n = c.decode-place.result in
    let later = lengths_left c.decode-place.new.self in
    let here : P (c.loop.place + n) =
    All-head P (c.loop.place + n) (ends_from (c.loop.place + n) later)
    (subst (λ ns. All P (ends_from c.loop.place ns)) c.decode-place.ensures.taken (c.loop.invariant.broken all)) in
    absurd (cc (c.if-not-is_char_boundary.ensures.test.1 here))

pub returns : goal.returns
returns c =
    let P : ℕ → Type 0 = IsCharBoundary c.args.whole.now in
    let none_left : lengths_left c.loop.rest ≡ [] = nil_from_length (lengths_left c.loop.rest) (omega arith) in
    c.loop.invariant.kept (subst (λ ns. All P (ends_from c.loop.place ns)) (sym none_left) (All-nil P))
