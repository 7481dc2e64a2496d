-- One element after another.
use Rattle.std.proofs.Common.{rules, ◌∙◌, map, refl, ap, sym, subst}
use Rattle.std.proofs.lemmas.List.{length-map}
use Rattle.std.proofs.lemmas.Result.{err_from_is_err_and}
use Rattle.bitcode_shapes.specs.Datum.{unit}
use Rattle.bitcode_untyped.specs.ShapeTree.{map_tree, unit_tree}
use Rattle.bitcode_serde.proofs.SerializeLemmas.{grows_same, writes_none, refused_outcome}
use Rattle.bitcode_serde_types.specs.Pairs.{BeginsMap, with_unit}
use Rattle.bitcode_serde_types.proofs.MapWritten.{none_written, keys_place, pair_written, key_not_written, all_written}
use Rattle.bitcode_serde_types.proofs.sets.write_keys.Goals as goal

pub returns-in_err-places : goal.returns-in_err-places
returns-in_err-places g c =
    let k = g.K.HasShape.tree c.args.left in
    let y = err_from_is_err_and c.from_residual.result c.from_residual.ensures.1 in
    refused_outcome c.args.writer.now (map_tree k unit_tree) c.args.place _ _ c.from_residual.result c.begin_map.new.writer c.in_err-places.field-0.0 y.0 y.1 y.2
    (c.in_err-places.ensures.refused k unit_tree _)

pub loop-key-init : goal.loop-key-init
loop-key-init g c =
    let keys = g.L.Lends.rest c.args.lent in
    none_written g.K.HasShape.datum (λ u. unit) (g.K.HasShape.tree c.args.left) unit_tree (map with_unit keys) c.args.writer.now
    c.begin_map.new.writer c.args.place c.in_ok-places.places.keys c.in_ok-places.places.values (map with_unit keys) refl
    (subst (λ n. BeginsMap c.args.writer.now c.begin_map.new.writer c.args.place n c.in_ok-places.places.keys c.in_ok-places.places.values)
    (sym c.requires.all ∙ sym (length-map keys with_unit)) c.in_ok-places.ensures.begins)

pub write-requires : goal.write-requires
write-requires g c =
    let h = keys_place g.K.HasShape.datum (λ u. unit) (g.K.HasShape.tree c.args.left) unit_tree (map with_unit (g.L.Lends.rest c.args.lent))
    c.args.writer.now c.begin_map.new.writer c.args.place c.in_ok-places.places.keys c.in_ok-places.places.values (map with_unit (g.L.Lends.rest c.loop-key.lent)) c.loop-key.writer c.loop-key.invariant in
    search (rules, h)

pub returns-in_err-write : goal.returns-in_err-write
returns-in_err-write g c =
    let k = g.K.HasShape.tree c.args.left in
    let y = err_from_is_err_and c.from_residual-in_err-write.result c.from_residual-in_err-write.ensures.1 in
    refused_outcome c.args.writer.now (map_tree k unit_tree) c.args.place _ _ c.from_residual-in_err-write.result c.write.new.writer c.in_err-write.field-0.0
    y.0 y.1 y.2
    (key_not_written g.K.HasShape.datum (λ u. unit) (g.K.HasShape.tree c.args.left) unit_tree (map with_unit (g.L.Lends.rest c.args.lent))
    c.args.writer.now c.begin_map.new.writer c.args.place c.in_ok-places.places.keys c.in_ok-places.places.values (map with_unit (g.L.Lends.rest c.loop-key.lent)) c.loop-key.writer c.loop-key.invariant
    c.in-Some.key.now tt (map with_unit (g.L.Lends.rest c.lend.new.self)) (ap (map with_unit) c.in-Some.ensures.next) _ c.in_err-write.ensures.refused)

pub loop-key-preserved : goal.loop-key-preserved
loop-key-preserved g c =
    let w = c.write.new.writer in
    pair_written g.K.HasShape.datum (λ u. unit) (g.K.HasShape.tree c.args.left) unit_tree (map with_unit (g.L.Lends.rest c.args.lent))
    c.args.writer.now c.begin_map.new.writer c.args.place c.in_ok-places.places.keys c.in_ok-places.places.values (map with_unit (g.L.Lends.rest c.loop-key.lent)) c.loop-key.writer c.loop-key.invariant
    c.in-Some.key.now tt (map with_unit (g.L.Lends.rest c.lend.new.self)) (ap (map with_unit) c.in-Some.ensures.next) w w c.in_ok-write.ensures.written
    c.in_ok-write.ensures.of_tree c.in_ok-write.ensures.whole (writes_none w w (grows_same w w refl) refl) refl refl

pub returns : goal.returns
returns g c =
    all_written g.K.HasShape.datum (λ u. unit) (g.K.HasShape.tree c.args.left) unit_tree (map with_unit (g.L.Lends.rest c.args.lent))
    c.args.writer.now c.begin_map.new.writer c.args.place c.in_ok-places.places.keys c.in_ok-places.places.values (map with_unit (g.L.Lends.rest c.loop-key.lent)) c.loop-key.writer c.loop-key.invariant
    tt (ap (map with_unit) c.in_default.ensures.end)
