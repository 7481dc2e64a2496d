-- A char is an entry that is a scalar value.
use Rattle.std.proofs.Common.{false, refl, sym, subst}
use Rattle.std.proofs.lemmas.Result.{err_from_is_err_and}
use Rattle.bitcode_coder.specs.Columns.{ints}
use Rattle.bitcode_coder.specs.Spelling.{natural}
use Rattle.bitcode_shapes.specs.Shape.{scalar}
use Rattle.bitcode_untyped.specs.Reads.{ReadsNoDatum}
use Rattle.bitcode_untyped.specs.ShapeTree.{char_tree}
use Rattle.bitcode_untyped.proofs.ReadLemmas.{leaf_stuck, leaf_refused}
use Rattle.bitcode_serde.specs.ReadingValues.{ReadsAt}
use Rattle.bitcode_serde.proofs.ColumnLemmas.{passed_on}
use Rattle.bitcode_serde.proofs.ValueLemmas.{refused_entry, led_at}
use Rattle.bitcode_serde_types.specs.Refusals.{IsRefusalAt}
use Rattle.bitcode_serde_types.proofs.KeptLemmas.{one_kept, leaf_led}
use Rattle.bitcode_serde_types.proofs.RefusalLemmas.{as_value}
use Rattle.bitcode_serde_types.proofs.read_leaves.CharDeserializeAs.read.Goals as goal

pub returns-in_err-code-clause-refused : goal.returns-in_err-code-clause-refused
returns-in_err-code-clause-refused c =
    let y = err_from_is_err_and c.from_residual.result c.from_residual.ensures.1 in
    passed_on (λ e. IsRefusalAt char_tree c.args.place c.args.reader.now e.reason) c.from_residual.result c.in_err-code.field-0.0 y.0 y.1 y.2
    (as_value char_tree c.args.place c.args.reader.now _
    (refused_entry c.args.reader.now c.args.place (ints 4 false) (ReadsNoDatum char_tree) _ (λ p a stuck. leaf_stuck (ints 4 false) scalar p a stuck)
    c.in_err-code.ensures.refused))

pub returns-in-None-clause-refused : goal.returns-in-None-clause-refused
returns-in-None-clause-refused c =
    let code = c.in_ok-code.code in
    passed_on (λ e. IsRefusalAt char_tree c.args.place c.args.reader.now e.reason) c.err.result _ _ c.err.ensures refl (
      tt,
      λ other p at a s.
          let l = led_at c.args.reader.now c.take_code.new.self c.args.place (ints 4 false) (natural code) c.in_ok-code.ensures.leads p at a s in
          leaf_refused (ints 4 false) scalar p a (natural code) l.0 l.2.0 c.in-None.ensures.value,
    )

pub returns-in-Some-clause-read : goal.returns-in-Some-clause-read
returns-in-Some-clause-read c =
    let old = c.args.reader.now in
    let new = c.take_code.new.self in
    one_kept natural (λ d. ReadsAt char_tree c.args.place old d new) c.args.budget.now c.take.new.self c.in-Some.c refl c.take.ensures
    (subst (λ n. ReadsAt char_tree c.args.place old (natural n) new) (sym c.in-Some.ensures.value.1)
    (leaf_led (ints 4 false) scalar c.args.place old new (natural c.in_ok-code.code) c.in-Some.ensures.value.0 c.in_ok-code.ensures.leads))
