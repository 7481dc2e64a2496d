-- Each entry was looked at.
use Rattle.std.proofs.Common.{◌≡◌, ℕ, List, [], All, subst, ◌∙◌, sym}
use Rattle.std.specs.Float.{binary64}
use Rattle.std.proofs.lemmas.Bool.{eqb-true}
use Rattle.std.proofs.lemmas.List.Elements.{All-more}
use Rattle.std.proofs.lemmas.List.{take_all}
use Rattle.bitcode_float_columns.specs.FloatColumn.{canonical}
use Rattle.bitcode_floats.specs.Floats.{residue_of}
use Rattle.bitcode_floats.proofs.float64.are_canonical.Goals as goal

abbrev IsWritten : List ℕ → Type 0
IsWritten entry = canonical binary64 (residue_of entry) ≡ residue_of entry

pub loop-entry-preserved : goal.loop-entry-preserved
loop-entry-preserved c =
    let here : canonical binary64 c.bits_of.result ≡ c.bits_of.result = eqb-true _ _ (sym c.is_canonical_f64.ensures ∙ c.if-not-is_canonical_f64.false) in
    All-more IsWritten c.args.entries.now c.loop-entry.entry-index [] c.loop-entry-test.true c.loop-entry.invariant
    (subst (λ b. canonical binary64 b ≡ b) c.bits_of.ensures here)

pub returns : goal.returns
returns c = subst (All IsWritten) (take_all c.loop-entry.entry-index c.args.entries.now c.loop-entry-test.false) c.loop-entry.invariant
