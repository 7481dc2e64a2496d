-- Each of the bits is one of those that are left, or was looked at.
use Rattle.std.proofs.Common.{◌≡◌, ℕ, length, All, subst, sym, ap, ◌∙◌, arith, true, false}
use Rattle.std.specs.Float.{binary32}
use Rattle.std.proofs.lemmas.Bool.{false≢true, eqb-true, eq-eqb}
use Rattle.std.proofs.lemmas.List.{nil_from_length}
use Rattle.std.proofs.lemmas.List.Elements.{All-nil, All-cons, All-head, All-tail}
use Rattle.bitcode_float_columns.specs.FloatColumn.{canonical}
use Rattle.bitcode_float_columns.specs.Split.{split_rest}
use Rattle.bitcode_float_columns.proofs.split.are_canonical.Goals as goal

abbrev Is : ℕ → Type 0
Is b = canonical binary32 b ≡ b

pub loop-taken-init : goal.loop-taken-init
loop-taken-init c = record { back = λ h. h; forth = λ h. h; left = omega (arith, c.requires) }

pub loop-taken-preserved : goal.loop-taken-preserved
loop-taken-preserved c =
    let was = c.loop-taken.invariant in
    let bits = c.next_unchecked-bits.result in
    let others = split_rest c.next_unchecked-bits.new.self in
    record {
      back = λ h. was.back (subst (All Is) (sym c.next_unchecked-bits.ensures) (All-cons Is bits others (eqb-true _ _ (sym c.is_canonical_f32.ensures ∙ c.if-not-is_canonical_f32.false)) h));
      forth = λ h. All-tail Is bits others (subst (All Is) c.next_unchecked-bits.ensures (was.forth h));
      left = omega (arith, was.left, ap length c.next_unchecked-bits.ensures);
    }

pub returns-then-not-is_canonical_f32 : goal.returns-then-not-is_canonical_f32
returns-then-not-is_canonical_f32 c =
    let was = c.loop-taken.invariant in
    let bits = c.next_unchecked-bits.result in
    let others = split_rest c.next_unchecked-bits.new.self in
    λ h.
    let first : Is bits = All-head Is bits others (subst (All Is) c.next_unchecked-bits.ensures (was.forth h)) in
    false≢true (sym c.if-not-is_canonical_f32.true ∙ c.is_canonical_f32.ensures ∙ eq-eqb _ _ first)

pub returns : goal.returns
returns c =
    let was = c.loop-taken.invariant in
    let none = nil_from_length (split_rest c.loop-taken.rest) (omega (arith, was.left)) in
    was.back (subst (All Is) (sym none) (All-nil Is))
