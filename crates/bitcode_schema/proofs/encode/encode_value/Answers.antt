-- One value is written as the columns of one datum.
use Rattle.std.proofs.Common.{subst, [], ◌∷◌}
use Rattle.std.proofs.lemmas.Result.{err_from_is_err_and}
use Rattle.bitcode_schema.specs.Forms.{content_under, shape_of}
use Rattle.bitcode_schema.specs.Writing.{Writes, HasStranger}
use Rattle.bitcode_schema.proofs.OneLemmas.{one_written, one_stranger}
use Rattle.bitcode_schema.proofs.SeenLemmas.{refusal_as}
use Rattle.bitcode_schema.proofs.encode.encode_value.Goals as goal

pub returns-in_err-write_each-clause-refused : goal.returns-in_err-write_each-clause-refused
returns-in_err-write_each-clause-refused c =
    let p = err_from_is_err_and c.from_residual.result c.from_residual.ensures.1 in
    rw (p.1, p.2)
    (refusal_as _
    (λ stranger. one_stranger c.args.schema.now.root c.args.value.now
    (subst (λ n. HasStranger (content_under n) (shape_of n) (c.args.value.now ∷ [])) c.root.ensures stranger)) c.in_err-write_each.ensures.refused)

pub returns-clause-written : goal.returns-clause-written
returns-clause-written c =
    let root = subst (λ n. Writes (content_under n) (shape_of n) (c.args.value.now ∷ []) c.new-out.result.items c.write_each.new.out.items) c.root.ensures
    c.in_ok-write_each.ensures.written in
    one_written c.args.schema.now.root c.args.value.now c.write_each.new.out.items
    (subst (λ old. Writes (content_under c.args.schema.now.root) (shape_of c.args.schema.now.root) (c.args.value.now ∷ []) old c.write_each.new.out.items)
    c.new-out.ensures.items root)
