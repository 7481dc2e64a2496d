-- One key and its value after another.
use Rattle.std.proofs.Common.{rules, arith, ◌≡◌, ◌<◌}
use Rattle.std.proofs.lemmas.Result.{err_from_is_err_and}
use Rattle.bitcode_untyped.specs.ShapeTree.{map_tree}
use Rattle.bitcode_serde.proofs.ColumnLemmas.{passed_on}
use Rattle.bitcode_serde.proofs.ValueLemmas.{continues_on, still_there}
use Rattle.bitcode_serde_types.specs.Refusals.{IsRefusalAt}
use Rattle.bitcode_serde_types.proofs.PairLemmas.{no_memory, no_pairs, pairs_more, keys_there, values_there, key_not_kept, value_not_kept, pairs_kept}
use Rattle.bitcode_serde_types.proofs.maps.read_pairs.Goals as goal

pub read-requires : goal.read-requires
read-requires g c =
    let l = c.loop-i in
    let found = c.in_ok-found.found in
    let h = keys_there g.K.HasShape.datum g.V.HasShape.datum (g.K.HasShape.tree c.args.left) (g.V.HasShape.tree c.args.left) found.keys found.values
    c.enter_map.new.reader l.reader c.enter_map.new.budget l.budget l._i l.pairs.items l.invariant c.in_ok-found.ensures.inside.0 in
    let s = l.invariant.0.steady in
    search (rules, h, s)

pub read-requires-in-loop-i : goal.read-requires-in-loop-i
read-requires-in-loop-i g c =
    let l = c.loop-i in
    let found = c.in_ok-found.found in
    let there = values_there g.K.HasShape.datum g.V.HasShape.datum (g.K.HasShape.tree c.args.left) (g.V.HasShape.tree c.args.left) found.keys found.values
    c.enter_map.new.reader l.reader c.enter_map.new.budget l.budget l._i l.pairs.items l.invariant c.in_ok-found.ensures.inside.1 in
    let h = still_there l.reader c.read.new.reader found.values c.in_ok-key.ensures.continues there in
    let s = c.in_ok-key.ensures.continues.steady in
    search (rules, h, s)

pub returns-in_err-found-clause-refused : goal.returns-in_err-found-clause-refused
returns-in_err-found-clause-refused g c =
    let k = g.K.HasShape.tree c.args.left in
    let v = g.V.HasShape.tree c.args.left in
    let y = err_from_is_err_and c.from_residual.result c.from_residual.ensures.1 in
    passed_on (λ e. IsRefusalAt (map_tree k v) c.args.place c.args.reader.now e.reason) c.from_residual.result c.in_err-found.field-0.0 y.0 y.1 y.2
    (c.in_err-found.ensures.refused k v)

pub returns-in_err-key-clause-refused : goal.returns-in_err-key-clause-refused
returns-in_err-key-clause-refused g c =
    let k = g.K.HasShape.tree c.args.left in
    let v = g.V.HasShape.tree c.args.left in
    let l = c.loop-i in
    let found = c.in_ok-found.found in
    let y = err_from_is_err_and c.from_residual-in_err-key.result c.from_residual-in_err-key.ensures.1 in
    let lt : l._i < found.count = omega arith in
    passed_on (λ e. IsRefusalAt (map_tree k v) c.args.place c.args.reader.now e.reason) c.from_residual-in_err-key.result c.in_err-key.field-0.0 y.0 y.1 y.2
    (key_not_kept g.K.HasShape.datum g.V.HasShape.datum k v found.keys found.values c.enter_map.new.reader l.reader c.enter_map.new.budget l.budget l._i
    l.pairs.items l.invariant c.args.reader.now c.args.place found.count c.in_ok-found.ensures.enters _ lt c.in_err-key.ensures.refused)

pub returns-in_err-value-clause-refused : goal.returns-in_err-value-clause-refused
returns-in_err-value-clause-refused g c =
    let k = g.K.HasShape.tree c.args.left in
    let v = g.V.HasShape.tree c.args.left in
    let l = c.loop-i in
    let found = c.in_ok-found.found in
    let y = err_from_is_err_and c.from_residual-in_err-value.result c.from_residual-in_err-value.ensures.1 in
    let lt : l._i < found.count = omega arith in
    passed_on (λ e. IsRefusalAt (map_tree k v) c.args.place c.args.reader.now e.reason) c.from_residual-in_err-value.result c.in_err-value.field-0.0 y.0 y.1 y.2
    (value_not_kept g.K.HasShape.datum g.V.HasShape.datum k v found.keys found.values c.enter_map.new.reader l.reader c.enter_map.new.budget l.budget l._i
    l.pairs.items l.invariant c.args.reader.now c.args.place found.count c.in_ok-found.ensures.enters _ c.read.new.reader _ _ c.in_ok-key.key lt
    c.in_ok-key.ensures.continues c.in_ok-key.ensures.read c.in_err-value.ensures.refused)

pub returns-in_err-keep-clause-refused : goal.returns-in_err-keep-clause-refused
returns-in_err-keep-clause-refused g c =
    let s = map_tree (g.K.HasShape.tree c.args.left) (g.V.HasShape.tree c.args.left) in
    let y = err_from_is_err_and c.from_residual-in_err-keep.result c.from_residual-in_err-keep.ensures.1 in
    passed_on (λ e. IsRefusalAt s c.args.place c.args.reader.now e.reason) c.from_residual-in_err-keep.result c.in_err-keep.field-0.0 y.0 y.1 y.2
    (no_memory s c.args.place c.args.reader.now _ c.in_err-keep.ensures.refused)

pub loop-i-init : goal.loop-i-init
loop-i-init g c =
    let found = c.in_ok-found.found in
    let start = no_pairs g.K.HasShape.datum g.V.HasShape.datum (g.K.HasShape.tree c.args.left) (g.V.HasShape.tree c.args.left) found.keys found.values
    c.enter_map.new.reader c.enter_map.new.budget c.in_ok-found.ensures.continues.steady in
    search (rules, start)

pub loop-i-preserved : goal.loop-i-preserved
loop-i-preserved g c =
    let l = c.loop-i in
    let found = c.in_ok-found.found in
    pairs_more g.K.HasShape.datum g.V.HasShape.datum (g.K.HasShape.tree c.args.left) (g.V.HasShape.tree c.args.left) found.keys found.values
    c.enter_map.new.reader l.reader c.enter_map.new.budget l.budget l._i l.pairs.items l.invariant (g.met.K.KeyAs.keeps_all c.args.left) c.read.new.reader
    c.read-in-loop-i.new.reader _ _ c.read-in-loop-i.new.budget c.keep.new.items.items c.in_ok-key.key c.in_ok-value.value c.take.ensures
    c.in_ok-key.ensures.continues c.in_ok-key.ensures.read c.in_ok-value.ensures.continues c.in_ok-value.ensures.read c.in_ok-keep.ensures.kept

pub returns-clause-continues : goal.returns-clause-continues
returns-clause-continues g c =
    continues_on c.args.reader.now c.enter_map.new.reader c.loop-i.reader c.in_ok-found.ensures.continues c.loop-i.invariant.0

pub returns-clause-read : goal.returns-clause-read
returns-clause-read g c =
    let l = c.loop-i in
    let found = c.in_ok-found.found in
    let all : l._i ≡ found.count = omega arith in
    pairs_kept g.K.HasShape.datum g.V.HasShape.datum (g.K.HasShape.tree c.args.left) (g.V.HasShape.tree c.args.left) found.keys found.values
    c.enter_map.new.reader l.reader c.enter_map.new.budget l.budget l._i l.pairs.items l.invariant c.args.reader.now c.args.place found.count c.args.budget.now
    c.in_ok-found.ensures.enters (g.met.K.KeyAs.has_column c.args.left) all c.enter_map.ensures.taken
