-- By the variant. Written by `scripts/second_format`.
use Rattle.std.proofs.Common.{rules, arith, refl}
use Rattle.bitcode_serde_types.specs.Written.{choice_tree}
use Rattle.bitcode_serde_types.proofs.StepsRead.{continues_on, refused_on, variant_refused, variant_kept, unit_variant_kept}
use Rattle.bitcode_recursive_types.specs.PolygonShape.{fill_trees, fill_datum}
use Rattle.bitcode_recursive_types.specs.declared.polygon.Fill.TheVariants as fill'
use Rattle.bitcode_recursive_types.proofs.polygon.FillDeserializeAs.read.Goals as goal

pub returns-in_err-found-clause-refused : goal.returns-in_err-found-clause-refused
returns-in_err-found-clause-refused c =
    let ss = fill_trees c.args.left in
    refused_on (choice_tree ss) c.args.place c.args.reader.now c.from_residual.result c.in_err-found.field-0.0 c.from_residual.ensures.1
    (c.in_err-found.ensures.refused ss refl)

pub returns-in-0-clause-read : goal.returns-in-0-clause-read
returns-in-0-clause-read c =
    unit_variant_kept (fill_trees c.args.left) 0 c.in_ok-found.ensures.enters (omega (arith, c.in_ok-found.ensures.known)) refl
    c.args.budget.now c.enter_variant.ensures.taken c.take.ensures fill_datum fill'.Nothing refl

pub returns-in_err-held-in-1-clause-refused : goal.returns-in_err-held-in-1-clause-refused
returns-in_err-held-in-1-clause-refused c =
    variant_refused (fill_trees c.args.left) 1 c.in_ok-found.ensures.enters (omega (arith, c.in_ok-found.ensures.known))
    c.from_residual-in_err-held-in-1.result c.in_err-held-in-1.field-0.0 c.from_residual-in_err-held-in-1.ensures.1 c.in_err-held-in-1.ensures.refused

pub returns-in_ok-held-in-1-clause-continues : goal.returns-in_ok-held-in-1-clause-continues
returns-in_ok-held-in-1-clause-continues c = continues_on _ _ _ c.in_ok-found.ensures.continues c.in_ok-held-in-1.ensures.continues

pub returns-in_ok-held-in-1-clause-read : goal.returns-in_ok-held-in-1-clause-read
returns-in_ok-held-in-1-clause-read c =
    variant_kept (fill_trees c.args.left) 1 c.in_ok-found.ensures.enters (omega (arith, c.in_ok-found.ensures.known))
    c.args.budget.now c.enter_variant.ensures.taken c.in_ok-held-in-1.ensures.read fill_datum (fill'.Colour c.in_ok-held-in-1.held) refl

pub returns-in_err-held-in_default-clause-refused : goal.returns-in_err-held-in_default-clause-refused
returns-in_err-held-in_default-clause-refused c =
    variant_refused (fill_trees c.args.left) 2 c.in_ok-found.ensures.enters (omega (arith, c.in_ok-found.ensures.known))
    c.from_residual-in_err-held-in_default.result c.in_err-held-in_default.field-0.0 c.from_residual-in_err-held-in_default.ensures.1 c.in_err-held-in_default.ensures.refused

pub returns-in_ok-held-in_default-clause-continues : goal.returns-in_ok-held-in_default-clause-continues
returns-in_ok-held-in_default-clause-continues c = continues_on _ _ _ c.in_ok-found.ensures.continues c.in_ok-held-in_default.ensures.continues

pub returns-in_ok-held-in_default-clause-read : goal.returns-in_ok-held-in_default-clause-read
returns-in_ok-held-in_default-clause-read c =
    let k = variant_kept (fill_trees c.args.left) 2 c.in_ok-found.ensures.enters (omega (arith, c.in_ok-found.ensures.known))
    c.args.budget.now c.enter_variant.ensures.taken c.in_ok-held-in_default.ensures.read fill_datum (fill'.Pattern c.in_ok-held-in_default.held.0 c.in_ok-held-in_default.held.1) refl in
    search (rules, k)
