-- The bytes of all arrays are one column.
use Rattle.std.proofs.Common.{◌*◌, ◌^◌, ◌≤◌, ◌<◌, Some, false, sym, arith}
use Rattle.std.proofs.lemmas.Bool.{false≢true}
use Rattle.std.proofs.lemmas.Result.{IfOk-weaker}
use Rattle.bitcode_shapes.specs.Ints.{int_shape}
use Rattle.bitcode_schema.specs.Forms.{leaf_content}
use Rattle.bitcode_schema.specs.Leaves.{int_leaf}
use Rattle.bitcode_schema.specs.Views.{elements_of}
use Rattle.bitcode_schema.specs.declared.schema.IntKind.TheVariants as int
use Rattle.bitcode_schema.proofs.HeldLemmas.{makes_arrays, made_length}
use Rattle.bitcode_schema.proofs.make.leaf_values.make_uuids.Goals as goal

pub arrays-requires : goal.arrays-requires
arrays-requires c =
    sym (made_length (leaf_content (Some (int_leaf int.U8))) (int_shape 1 false) (c.args.k * 16) _ _ _ (rw c.in_ok-count.ensures.product at c.in_ok-bytes.ensures.made))

pub returns : goal.returns
returns c =
    let few : c.args.k * 16 < 2 ^ 64 = (let over : 2 ^ 64 ≤ c.args.k * 16 → ⊥ = λ many. false≢true (c.in_ok-count.ensures.refused.1 many) in omega arith) in
    record {
      made = IfOk-weaker c.arrays.result _ _
          (λ values h.
          makes_arrays (leaf_content (Some (int_leaf int.U8))) elements_of (int_shape 1 false) c.args.k _ _ c.in_ok-bytes.bytes.items values.items 16 few
          (rw c.in_ok-count.ensures.product at c.in_ok-bytes.ensures.made) h)
          c.arrays.ensures.made;
    }
