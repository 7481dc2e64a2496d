-- The bytes of all arrays are one column.
use Rattle.std.proofs.Common.{◌*◌, ◌^◌, ◌≤◌, ◌<◌, false, refl, arith}
use Rattle.std.proofs.lemmas.Bool.{false≢true}
use Rattle.std.proofs.lemmas.Result.{err_from_is_err_and, IfErr-weaker, IfOk-weaker}
use Rattle.bitcode_shapes.specs.Ints.{int_shape}
use Rattle.bitcode_schema.proofs.SequenceLemmas.{reads_all, fault_of_elements, arrays_over}
use Rattle.bitcode_schema.proofs.leaves.read_uuids.Goals as goal

pub returns-in_err-count-clause-exact : goal.returns-in_err-count-clause-exact
returns-in_err-count-clause-exact c =
    let refused = err_from_is_err_and c.from_residual.result c.from_residual.ensures.1 in
    rw (refused.1, refused.2) (arrays_over c.args.k c.args.strict (int_shape 1 false) 16 _ _ (c.in_err-count.ensures.refused.0 refl) c.in_err-count.ensures.reason)

pub returns-clause-read : goal.returns-clause-read
returns-clause-read c =
    let few : c.args.k * 16 < 2 ^ 64 = (let over : 2 ^ 64 ≤ c.args.k * 16 → ⊥ = λ many. false≢true (c.in_ok-count.ensures.refused.1 many) in omega arith) in
    IfOk-weaker c.read_leaf.result _ _ (λ written found. reads_all c.args.k c.args.strict (int_shape 1 false) 16 few (rw c.in_ok-count.ensures.product at found))
    c.read_leaf.ensures.read

pub returns-clause-exact : goal.returns-clause-exact
returns-clause-exact c =
    let few : c.args.k * 16 < 2 ^ 64 = (let over : 2 ^ 64 ≤ c.args.k * 16 → ⊥ = λ many. false≢true (c.in_ok-count.ensures.refused.1 many) in omega arith) in
    IfErr-weaker c.read_leaf.result _ _
    (λ e fault. fault_of_elements c.args.k c.args.strict (int_shape 1 false) 16 _ _ few (rw c.in_ok-count.ensures.product at fault))
    c.read_leaf.ensures.exact
