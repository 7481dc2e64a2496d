-- Each value has the case, and one column never overflows.
use Rattle.std.proofs.Common.{◌≡◌, length, map, take, inr, refl, sym, ap, ◌∙◌, subst, arith}
use Rattle.std.proofs.Math.Seq.{take-length}
use Rattle.std.proofs.lemmas.Result.{err_from_is_err_and, on_ok_weaker}
use Rattle.std.proofs.lemmas.Option.{slice_get_read, slice_get-map}
use Rattle.std.specs.Option.{option_map}
use Rattle.bitcode_coder.proofs.EachLemmas.{parts_more}
use Rattle.bitcode_coder.specs.Columns.{emptied}
use Rattle.bitcode_schema.proofs.LeafWritingLemmas.{Joined, joined_none, joined_next, joined_all, only_memory, stranger_at}
use Rattle.bitcode_schema.proofs.write.leaf.write_leaf.Goals as goal

pub loop-value-init : goal.loop-value-init
loop-value-init g c =
    let of = g.T.Shaped.data in
    let same = c.in_ok-reserve.ensures.columns in
    let empty = same ∙ c.new-column.ensures.empty ∙ ap emptied (sym same) in
    record {
      joined = joined_none of.shape of.is_value of.lists g.T.InCase.leaf g.T.InCase.holder g.met.T.InCase.laws of.lawful.of_shape _ empty
          (g.met.E.Encoder.of_shape c.reserve.new.self);
      room = omega (arith, c.in_ok-reserve.ensures.ok);
    }

pub returns-in_err-encode-in-Some-clause-refused : goal.returns-in_err-encode-in-Some-clause-refused
returns-in_err-encode-in-Some-clause-refused g c =
    let of = g.T.Shaped.data in
    let same = c.in_ok-reserve.ensures.columns in
    let empty = same ∙ c.new-column.ensures.empty ∙ ap emptied (sym same) in
    let p = err_from_is_err_and c.from_residual-in_err-encode-in-Some.result c.from_residual-in_err-encode-in-Some.ensures.1 in
    rw (p.1, p.2)
    (only_memory of.shape of.is_value of.lists g.T.InCase.leaf g.T.InCase.holder g.met.T.InCase.laws of.lawful.of_shape
    (map (λ v. v.now) (take c.loop-value.value-index c.args.values.now)) _ _ empty (g.met.E.Encoder.of_shape c.reserve.new.self) c.loop-value.invariant.joined
    c.in-Some.t.now _ _ c.in_err-encode-in-Some.ensures.refused)

pub returns-in-None-clause-refused : goal.returns-in-None-clause-refused
returns-in-None-clause-refused g c =
    let here = slice_get_read c.args.values.now (length c.args.values.now) c.loop-value.value-index c.value-item.result refl c.loop-value-test.true c.value-item.is in
    let there = slice_get-map (λ v. v.now) c.args.values.now c.loop-value.value-index ∙ ap (option_map (λ v. v.now)) here in
    rw c.err.ensures (inr (
      refl,
      stranger_at g.T.InCase.leaf g.T.Shaped.data.shape (map (λ v. v.now) c.args.values.now) c.loop-value.value-index c.value-item.result.now there
          c.in-None.ensures.none,
    ))

pub loop-value-preserved : goal.loop-value-preserved
loop-value-preserved g c =
    let of = g.T.Shaped.data in
    let more = joined_next of.shape of.is_value of.lists g.T.InCase.leaf g.T.InCase.holder g.met.T.InCase.laws of.lawful.of_shape
    (map (λ v. v.now) (take c.loop-value.value-index c.args.values.now)) _ _ _ c.value-item.result.now c.in-Some.t.now c.loop-value.invariant.joined
    c.in-Some.ensures.some c.told.ensures c.in_ok-encode-in-Some.ensures.joined in
    record {
      joined = subst (λ vs. Joined of.shape of.is_value of.lists g.T.InCase.leaf g.T.InCase.holder g.met.T.InCase.laws of.lawful.of_shape vs
          (g.E.HoldsColumns.columns c.reserve.new.self) (g.E.HoldsColumns.columns c.encode.new.self))
          (sym (parts_more (λ v. v.now) c.args.values.now c.loop-value.value-index c.value-item.result c.loop-value-test.true c.value-item.is)) more;
      room = omega (arith, c.loop-value.invariant.room, c.in_ok-encode-in-Some.ensures.room);
    }

pub returns-clause-written : goal.returns-clause-written
returns-clause-written g c =
    let of = g.T.Shaped.data in
    let same = c.in_ok-reserve.ensures.columns in
    let empty = same ∙ c.new-column.ensures.empty ∙ ap emptied (sym same) in
    let at_end : c.loop-value.value-index ≡ length c.args.values.now = omega (arith, c.loop-value-test.false, c.loop-value.auto.value-index-end) in
    let all = ap (λ n. map (λ v. v.now) (take n c.args.values.now)) at_end ∙ ap (map (λ v. v.now)) (take-length c.args.values.now) in
    let joined = subst (λ vs. Joined of.shape of.is_value of.lists g.T.InCase.leaf g.T.InCase.holder g.met.T.InCase.laws of.lawful.of_shape vs
    (g.E.HoldsColumns.columns c.reserve.new.self) (g.E.HoldsColumns.columns c.loop-value.column)) all c.loop-value.invariant.joined in
    on_ok_weaker c.collect_into.result
    (joined_all of.shape of.is_value of.lists g.T.InCase.leaf g.T.InCase.holder g.met.T.InCase.laws of.lawful.of_shape (map (λ v. v.now) c.args.values.now) _ _ empty
    (g.met.E.Encoder.of_shape c.reserve.new.self) joined c.args.out.now.items c.collect_into.new.out.items) c.collect_into.ensures.written
