-- One key and its value after another.
use Rattle.std.proofs.Common.{rules, arith, ◌≤◌, length, refl, sym, subst}
use Rattle.std.proofs.lemmas.Result.{err_from_is_err_and}
use Rattle.bitcode_untyped.specs.ShapeTree.{map_tree}
use Rattle.bitcode_serde.proofs.SerializeLemmas.{refused_outcome}
use Rattle.bitcode_serde_types.specs.Pairs.{BeginsMap}
use Rattle.bitcode_serde_types.proofs.MapWritten.{none_written, keys_place, values_place, pair_written, key_not_written, value_not_written, all_written}
use Rattle.bitcode_serde_types.proofs.maps.write_pairs.Goals as goal

pub returns-in_err-places : goal.returns-in_err-places
returns-in_err-places g c =
    let k = g.K.HasShape.tree c.args.left in
    let v = g.V.HasShape.tree c.args.left in
    let y = err_from_is_err_and c.from_residual.result c.from_residual.ensures.1 in
    refused_outcome c.args.writer.now (map_tree k v) c.args.place _ _ c.from_residual.result c.begin_map.new.writer c.in_err-places.field-0.0 y.0 y.1 y.2
    (c.in_err-places.ensures.refused k v _)

pub loop-key-init : goal.loop-key-init
loop-key-init g c =
    let pairs = g.L.LendsPairs.rest c.args.lent in
    none_written g.K.HasShape.datum g.V.HasShape.datum (g.K.HasShape.tree c.args.left) (g.V.HasShape.tree c.args.left) pairs
    c.args.writer.now c.begin_map.new.writer c.args.place c.in_ok-places.places.keys c.in_ok-places.places.values pairs refl
    (subst (λ n. BeginsMap c.args.writer.now c.begin_map.new.writer c.args.place n c.in_ok-places.places.keys c.in_ok-places.places.values)
    (sym c.requires.all) c.in_ok-places.ensures.begins)

pub write-requires : goal.write-requires
write-requires g c =
    let h = keys_place g.K.HasShape.datum g.V.HasShape.datum (g.K.HasShape.tree c.args.left) (g.V.HasShape.tree c.args.left) (g.L.LendsPairs.rest c.args.lent)
    c.args.writer.now c.begin_map.new.writer c.args.place c.in_ok-places.places.keys c.in_ok-places.places.values (g.L.LendsPairs.rest c.loop-key.lent) c.loop-key.writer
    c.loop-key.invariant in
    search (rules, h)

pub write-requires-in-Some : goal.write-requires-in-Some
write-requires-in-Some g c =
    let h = values_place g.K.HasShape.datum g.V.HasShape.datum (g.K.HasShape.tree c.args.left) (g.V.HasShape.tree c.args.left) (g.L.LendsPairs.rest c.args.lent)
    c.args.writer.now c.begin_map.new.writer c.args.place c.in_ok-places.places.keys c.in_ok-places.places.values (g.L.LendsPairs.rest c.loop-key.lent) c.loop-key.writer
    c.loop-key.invariant in
    let m = c.in_ok-write.ensures.written.grows.size in
    let there : c.in_ok-places.places.values ≤ length c.write.new.writer.places.below.items = omega (arith, h, m) in
    search (rules, there)

pub returns-in_err-write : goal.returns-in_err-write
returns-in_err-write g c =
    let k = g.K.HasShape.tree c.args.left in
    let v = g.V.HasShape.tree c.args.left in
    let y = err_from_is_err_and c.from_residual-in_err-write.result c.from_residual-in_err-write.ensures.1 in
    refused_outcome c.args.writer.now (map_tree k v) c.args.place _ _ c.from_residual-in_err-write.result c.write.new.writer c.in_err-write.field-0.0 y.0 y.1 y.2
    (key_not_written g.K.HasShape.datum g.V.HasShape.datum k v (g.L.LendsPairs.rest c.args.lent) c.args.writer.now c.begin_map.new.writer c.args.place
    c.in_ok-places.places.keys c.in_ok-places.places.values (g.L.LendsPairs.rest c.loop-key.lent) c.loop-key.writer c.loop-key.invariant c.in-Some.key.now c.in-Some.value.now
    (g.L.LendsPairs.rest c.lend_pair.new.self) c.in-Some.ensures.next _ c.in_err-write.ensures.refused)

pub returns-in_err-write-2 : goal.returns-in_err-write-2
returns-in_err-write-2 g c =
    let k = g.K.HasShape.tree c.args.left in
    let v = g.V.HasShape.tree c.args.left in
    let y = err_from_is_err_and c.from_residual-in_err-write-2.result c.from_residual-in_err-write-2.ensures.1 in
    refused_outcome c.args.writer.now (map_tree k v) c.args.place _ _ c.from_residual-in_err-write-2.result c.write-in-Some.new.writer
    c.in_err-write-2.field-0.0 y.0 y.1 y.2
    (value_not_written g.K.HasShape.datum g.V.HasShape.datum k v (g.L.LendsPairs.rest c.args.lent) c.args.writer.now c.begin_map.new.writer c.args.place
    c.in_ok-places.places.keys c.in_ok-places.places.values (g.L.LendsPairs.rest c.loop-key.lent) c.loop-key.writer c.loop-key.invariant c.in-Some.key.now c.in-Some.value.now
    (g.L.LendsPairs.rest c.lend_pair.new.self) c.in-Some.ensures.next c.write.new.writer _ c.in_ok-write.ensures.written c.in_err-write-2.ensures.refused)

pub loop-key-preserved : goal.loop-key-preserved
loop-key-preserved g c =
    pair_written g.K.HasShape.datum g.V.HasShape.datum (g.K.HasShape.tree c.args.left) (g.V.HasShape.tree c.args.left) (g.L.LendsPairs.rest c.args.lent)
    c.args.writer.now c.begin_map.new.writer c.args.place c.in_ok-places.places.keys c.in_ok-places.places.values (g.L.LendsPairs.rest c.loop-key.lent) c.loop-key.writer
    c.loop-key.invariant c.in-Some.key.now c.in-Some.value.now (g.L.LendsPairs.rest c.lend_pair.new.self) c.in-Some.ensures.next c.write.new.writer c.write-in-Some.new.writer
    c.in_ok-write.ensures.written c.in_ok-write.ensures.of_tree c.in_ok-write.ensures.whole c.in_ok-write-2.ensures.written c.in_ok-write-2.ensures.of_tree
    c.in_ok-write-2.ensures.whole

pub returns : goal.returns
returns g c =
    all_written g.K.HasShape.datum g.V.HasShape.datum (g.K.HasShape.tree c.args.left) (g.V.HasShape.tree c.args.left) (g.L.LendsPairs.rest c.args.lent)
    c.args.writer.now c.begin_map.new.writer c.args.place c.in_ok-places.places.keys c.in_ok-places.places.values (g.L.LendsPairs.rest c.loop-key.lent) c.loop-key.writer
    c.loop-key.invariant tt c.in_default.ensures.next.0
