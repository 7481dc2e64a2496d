-- One key after another.
use Rattle.std.proofs.Common.{rules, arith, ◌≡◌, ◌<◌, [], map, refl, sym, subst}
use Rattle.std.proofs.lemmas.Result.{err_from_is_err_and}
use Rattle.bitcode_shapes.specs.Datum.{unit}
use Rattle.bitcode_untyped.specs.ShapeTree.{map_tree, unit_tree}
use Rattle.bitcode_serde.proofs.ColumnLemmas.{passed_on}
use Rattle.bitcode_serde.proofs.ValueLemmas.{asked_alike, continues_on}
use Rattle.bitcode_serde_types.specs.Pairs.{with_unit}
use Rattle.bitcode_serde_types.specs.Refusals.{IsRefusalAt}
use Rattle.bitcode_serde_types.proofs.KeptLemmas.{unit_kept}
use Rattle.bitcode_serde_types.proofs.PairLemmas.{PairsKept, no_memory, no_pairs, pairs_more, keys_there, key_not_kept, pairs_kept}
use Rattle.bitcode_serde_types.proofs.SetLemmas.{with_unit_more}
use Rattle.bitcode_serde_types.proofs.sets.read_keys.Goals as goal

pub read-requires : goal.read-requires
read-requires g c =
    let l = c.loop-i in
    let found = c.in_ok-found.found in
    let h = keys_there g.K.HasShape.datum (λ u. unit) (g.K.HasShape.tree c.args.left) unit_tree found.keys found.values
    c.enter_map.new.reader l.reader c.enter_map.new.budget l.budget l._i (map with_unit l.keys.items) l.invariant c.in_ok-found.ensures.inside.0 in
    let s = l.invariant.0.steady in
    search (rules, h, s)

pub returns-in_err-found-clause-refused : goal.returns-in_err-found-clause-refused
returns-in_err-found-clause-refused g c =
    let k = g.K.HasShape.tree c.args.left in
    let y = err_from_is_err_and c.from_residual.result c.from_residual.ensures.1 in
    passed_on (λ e. IsRefusalAt (map_tree k unit_tree) c.args.place c.args.reader.now e.reason) c.from_residual.result c.in_err-found.field-0.0 y.0 y.1 y.2
    (c.in_err-found.ensures.refused k unit_tree)

pub returns-in_err-key-clause-refused : goal.returns-in_err-key-clause-refused
returns-in_err-key-clause-refused g c =
    let k = g.K.HasShape.tree c.args.left in
    let l = c.loop-i in
    let found = c.in_ok-found.found in
    let y = err_from_is_err_and c.from_residual-in_err-key.result c.from_residual-in_err-key.ensures.1 in
    let lt : l._i < found.count = omega arith in
    passed_on (λ e. IsRefusalAt (map_tree k unit_tree) c.args.place c.args.reader.now e.reason) c.from_residual-in_err-key.result c.in_err-key.field-0.0 y.0 y.1 y.2
    (key_not_kept g.K.HasShape.datum (λ u. unit) (g.K.HasShape.tree c.args.left) unit_tree found.keys found.values
    c.enter_map.new.reader l.reader c.enter_map.new.budget l.budget l._i (map with_unit l.keys.items) l.invariant
    c.args.reader.now c.args.place found.count c.in_ok-found.ensures.enters _ lt c.in_err-key.ensures.refused)

pub returns-in_err-keep-clause-refused : goal.returns-in_err-keep-clause-refused
returns-in_err-keep-clause-refused g c =
    let s = map_tree (g.K.HasShape.tree c.args.left) unit_tree in
    let y = err_from_is_err_and c.from_residual-in_err-keep.result c.from_residual-in_err-keep.ensures.1 in
    passed_on (λ e. IsRefusalAt s c.args.place c.args.reader.now e.reason) c.from_residual-in_err-keep.result c.in_err-keep.field-0.0 y.0 y.1 y.2
    (no_memory s c.args.place c.args.reader.now _ c.in_err-keep.ensures.refused)

pub loop-i-init : goal.loop-i-init
loop-i-init g c =
    let found = c.in_ok-found.found in
    let empty : c.new-keys.result.items ≡ [] = search rules in
    let start = no_pairs g.K.HasShape.datum (λ u. unit) (g.K.HasShape.tree c.args.left) unit_tree found.keys found.values
    c.enter_map.new.reader c.enter_map.new.budget c.in_ok-found.ensures.continues.steady in
    subst (λ ks. PairsKept g.K.HasShape.datum (λ u. unit) (g.K.HasShape.tree c.args.left) unit_tree found.keys found.values c.enter_map.new.reader
    c.enter_map.new.budget 0 (map with_unit ks) c.enter_map.new.reader c.enter_map.new.budget) (sym empty) start

pub loop-i-preserved : goal.loop-i-preserved
loop-i-preserved g c =
    let l = c.loop-i in
    let found = c.in_ok-found.found in
    let next = c.read.new.reader in
    pairs_more g.K.HasShape.datum (λ u. unit) (g.K.HasShape.tree c.args.left) unit_tree found.keys found.values
    c.enter_map.new.reader l.reader c.enter_map.new.budget l.budget l._i (map with_unit l.keys.items) l.invariant (g.met.K.KeyAs.keeps_all c.args.left) next next _ c.read.new.budget
    c.take-in-loop-i.new.self (map with_unit c.keep.new.items.items) c.in_ok-key.key tt c.take.ensures c.in_ok-key.ensures.continues c.in_ok-key.ensures.read
    (record { steady = c.in_ok-key.ensures.continues.steady; asked = asked_alike next; kept = λ i p at. at })
    (unit_kept (λ u. unit) found.values next c.read.new.budget c.take-in-loop-i.new.self tt refl c.take-in-loop-i.ensures)
    (λ left. with_unit_more l.keys.items c.keep.new.items.items c.in_ok-key.key (c.in_ok-keep.ensures.kept left))

pub returns-clause-continues : goal.returns-clause-continues
returns-clause-continues g c =
    continues_on c.args.reader.now c.enter_map.new.reader c.loop-i.reader c.in_ok-found.ensures.continues c.loop-i.invariant.0

pub returns-clause-read : goal.returns-clause-read
returns-clause-read g c =
    let l = c.loop-i in
    let found = c.in_ok-found.found in
    let all : l._i ≡ found.count = omega arith in
    pairs_kept g.K.HasShape.datum (λ u. unit) (g.K.HasShape.tree c.args.left) unit_tree found.keys found.values
    c.enter_map.new.reader l.reader c.enter_map.new.budget l.budget l._i (map with_unit l.keys.items) l.invariant c.args.reader.now c.args.place found.count c.args.budget.now
    c.in_ok-found.ensures.enters (g.met.K.KeyAs.has_column c.args.left) all c.enter_map.ensures.taken
