-- The fields or the variant, or one reference too many. Written by `scripts/second_format`.
use Rattle.std.proofs.Common.{refl, ap, sym, ◌∙◌, string_bytes}
use Rattle.bitcode_serde_types.specs.Written.{Datum, text, tuple, choice, no_data, datum_and}
use Rattle.bitcode_serde_types.proofs.StepsRead.{entries_mapped, too_deep_written}
use Rattle.bitcode_recursive_types.specs.ExprShape.{expr_tree, expr_trees, expr_step, expr_datum}
use Rattle.bitcode_recursive_types.specs.declared.expr.Expr.TheFolds.{fold-roll-Expr}
use Rattle.bitcode_recursive_types.specs.declared.expr.Expr.TheVariants as expr'
use Rattle.bitcode_recursive_types.specs.declared.expr.Expr.TheOpen.{Expr-F}
use Rattle.bitcode_recursive_types.proofs.expr.ExprSerializeAs.+write.Goals as goal

pub returns-in_err-below : goal.returns-in_err-below
returns-in_err-below t c =
    too_deep_written expr_tree refl _ c.args.place c.from_residual.result c.in_err-below.field-0.0 c.from_residual.ensures.1 c.in_err-below.ensures.refused c.args.writer.now _

pub returns-in-Num : goal.returns-in-Num
returns-in-Num t c =
    rw (c.in_ok-below.ensures.followed, c.in-Num.is, ap expr_datum (sym (expr'.rolls-Num c.in-Num.x0)) ∙ fold-roll-Expr Datum expr_step (Expr-F.Num c.in-Num.x0))
    (c.write_variant.ensures (expr_trees c.in_ok-below.below) refl)

pub returns-in-Neg : goal.returns-in-Neg
returns-in-Neg t c =
    rw (c.in_ok-below.ensures.followed, c.in-Neg.is, ap expr_datum (sym (expr'.rolls-Neg c.in-Neg.x0)) ∙ fold-roll-Expr Datum expr_step (Expr-F.Neg c.in-Neg.x0))
    (c.write_variant-in-Neg.ensures (expr_trees c.in_ok-below.below) refl)

pub returns-in-Add : goal.returns-in-Add
returns-in-Add t c =
    rw (c.in_ok-below.ensures.followed, c.in-Add.is, ap expr_datum (sym (expr'.rolls-Add c.in-Add.x0 c.in-Add.x1)) ∙ fold-roll-Expr Datum expr_step (Expr-F.Add c.in-Add.x0 c.in-Add.x1))
    (c.write_variant-in-Add.ensures (expr_trees c.in_ok-below.below) refl)

pub returns-in-Call : goal.returns-in-Call
returns-in-Call t c =
    rw (c.in_ok-below.ensures.followed, c.in-Call.is, ap expr_datum (sym (expr'.rolls-Call c.in-Call.x0 c.in-Call.x1)) ∙ fold-roll-Expr Datum expr_step (Expr-F.Call c.in-Call.x0 c.in-Call.x1))
    (c.write_variant-in-Call.ensures (expr_trees c.in_ok-below.below) refl)

pub returns-in-Bind : goal.returns-in-Bind
returns-in-Bind t c =
    rw (
      c.in_ok-below.ensures.followed,
      c.in-Bind.is,
      ap expr_datum (sym (expr'.rolls-Bind c.in-Bind.x0 c.in-Bind.x1)) ∙ fold-roll-Expr Datum expr_step (Expr-F.Bind c.in-Bind.x0 c.in-Bind.x1)
          ∙ ap (λ z. choice 4 (tuple (datum_and z (datum_and (expr_datum c.in-Bind.x1.value) no_data)))) (entries_mapped (λ s. text (string_bytes s)) expr_datum c.in-Bind.x0.entries),
    )
    (c.write_variant-in-Bind.ensures (expr_trees c.in_ok-below.below) refl)
