-- The numbers are those of the type, and each is below a second.
use Rattle.std.proofs.Common.{false, map}
use Rattle.std.proofs.lemmas.Result.{on_ok_weaker, IfErr-weaker}
use Rattle.bitcode_shapes.specs.Checked.{below_second}
use Rattle.bitcode_schema.specs.Leaves.{int_leaf}
use Rattle.bitcode_schema.specs.declared.schema.IntKind.TheVariants as int
use Rattle.bitcode_schema.proofs.AllowedLemmas.{writes_narrowed, stranger_narrowed}
use Rattle.bitcode_schema.proofs.SeenLemmas.{refusal_as}
use Rattle.bitcode_schema.proofs.write.write_nanoseconds.Goals as goal

pub returns-clause-written : goal.returns-clause-written
returns-clause-written c =
    on_ok_weaker c.write_leaf.result
    (writes_narrowed 4 false below_second (int_leaf int.U32) (map (λ v. v.now) c.args.values.now) c.args.out.now.items c.write_leaf.new.out.items
    c.if-not-are_below_second.ensures) c.write_leaf.ensures.written

pub returns-clause-refused : goal.returns-clause-refused
returns-clause-refused c =
    IfErr-weaker c.write_leaf.result _ _
    (λ e. refusal_as e.reason (stranger_narrowed 4 false below_second (int_leaf int.U32) (map (λ v. v.now) c.args.values.now))) c.write_leaf.ensures.refused
