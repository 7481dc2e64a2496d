-- The integers are those of the kind, and none is 0.
use Rattle.std.proofs.Common.{inr, refl, map}
use Rattle.std.proofs.lemmas.Result.{on_ok_weaker, IfErr-weaker}
use Rattle.bitcode_shapes.specs.Shape.{nonzero}
use Rattle.bitcode_schema.specs.Leaves.{int_leaf, width_of, is_signed}
use Rattle.bitcode_schema.proofs.AllowedLemmas.{writes_narrowed, stranger_narrowed}
use Rattle.bitcode_schema.proofs.SeenLemmas.{refusal_as}
use Rattle.bitcode_schema.proofs.write.write_nonzeros.Goals as goal

pub returns-then-not-are_nonzero : goal.returns-then-not-are_nonzero
returns-then-not-are_nonzero c = record { written = rw c.err.ensures tt; refused = rw c.err.ensures (inr (refl, c.if-not-are_nonzero.ensures c.args.kind)) }

pub returns : goal.returns
returns c =
    let kind = c.args.kind in
    let vs = map (λ v. v.now) c.args.values.now in
    record {
      written = on_ok_weaker c.write_ints.result
          (writes_narrowed (width_of kind) (is_signed kind) nonzero (int_leaf kind) vs c.args.out.now.items c.write_ints.new.out.items (c.if-not-are_nonzero.ensures kind))
          c.write_ints.ensures.written;
      refused = IfErr-weaker c.write_ints.result _ _
          (λ e. refusal_as e.reason (stranger_narrowed (width_of kind) (is_signed kind) nonzero (int_leaf kind) vs)) c.write_ints.ensures.refused;
    }
