-- A value of another case ends the loop.
use Rattle.std.proofs.Common.{◌≡◌, Some, None, map, inr, refl, sym, ◌∙◌}
use Rattle.bitcode_shapes.specs.Datum.{unit}
use Rattle.bitcode_shapes.specs.Shape.{unit_shape}
use Rattle.bitcode_untyped.specs.declared.value.Value.{out-Value}
use Rattle.bitcode_schema.specs.Parts.{unit_content}
use Rattle.bitcode_schema.proofs.AllowedLemmas.{stranger_here}
use Rattle.bitcode_schema.proofs.LoopLemmas.{more_all, all_values}
use Rattle.bitcode_schema.proofs.UnitLemmas.{unit_held, unit_none, units_written}
use Rattle.bitcode_schema.proofs.write.write_units.Goals as goal

pub returns-in_default : goal.returns-in_default
returns-in_default c =
    let none = unit_none c.value-item.result.now c.in_default.not-Unit in
    let here = stranger_here (λ v. unit_content (out-Value v)) unit_shape (λ v. v.now) c.args.values.now c.loop-value.value-index c.value-item.result
    c.loop-value-test.true c.value-item.is (λ d is of. let never : None ≡ Some d = sym none ∙ is in cc) in
    record { written = rw c.err.ensures tt; refused = rw c.err.ensures (inr (refl, here)) }

pub loop-value-preserved : goal.loop-value-preserved
loop-value-preserved c =
    more_all (λ v. unit_content (out-Value v) ≡ Some unit) (λ v. v.now) c.args.values.now c.loop-value.value-index c.value-item.result c.loop-value-test.true
    c.value-item.is c.loop-value.invariant (unit_held c.value-item.result.now c.in-Unit.is)

pub returns-clause-written : goal.returns-clause-written
returns-clause-written c =
    units_written (λ v. unit_content (out-Value v)) (map (λ v. v.now) c.args.values.now) c.args._out.now.items
    (all_values (λ v. unit_content (out-Value v) ≡ Some unit) (λ v. v.now) c.args.values.now c.loop-value.value-index c.loop-value-test.false
    c.loop-value.auto.value-index-end c.loop-value.invariant)
