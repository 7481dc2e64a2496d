-- A length was written, and there are places one step below.
use Rattle.std.proofs.Common.{arith, inl, refl, List}
use Rattle.std.proofs.lemmas.Result.{err_from_is_err_and}
use Rattle.bitcode_memory.specs.declared.error.Reason.{Reason}
use Rattle.bitcode_coder.specs.Spelling.{natural}
use Rattle.bitcode_untyped.specs.ShapeTree.{ShapeTree, map_tree}
use Rattle.bitcode_untyped.specs.Walk.{key, length_kind, use_at}
use Rattle.bitcode_serde.specs.Writing.{place_in, RefusesAt}
use Rattle.bitcode_serde.proofs.ColumnLemmas.{passed_on}
use Rattle.bitcode_serde.proofs.SerializeLemmas.{refuses_use, begun}
use Rattle.bitcode_serde.proofs.WalkLemmas.{both_begun}
use Rattle.bitcode_serde_types.proofs.maps.begin_map.Goals as goal

pub returns-in_err-put-clause-refused : goal.returns-in_err-put-clause-refused
returns-in_err-put-clause-refused c =
    let y = err_from_is_err_and c.from_residual.result c.from_residual.ensures.1 in
    passed_on (λ e. (k v : ShapeTree) (faults : List Reason) → RefusesAt c.args.writer.now (map_tree k v) c.args.place faults e.reason) c.from_residual.result
    c.in_err-put.field-0.0 y.0 y.1 y.2
    (λ k v faults. refuses_use c.args.writer.now (map_tree k v) c.args.place faults _ (place_in c.args.writer.now c.args.place) length_kind
    c.in_err-put.ensures.refused (inl (refl, refl)))

pub returns-in_err-keys-clause-refused : goal.returns-in_err-keys-clause-refused
returns-in_err-keys-clause-refused c =
    let y = err_from_is_err_and c.from_residual-in_err-keys.result c.from_residual-in_err-keys.ensures.1 in
    passed_on (λ e. (k v : ShapeTree) (faults : List Reason) → RefusesAt c.args.writer.now (map_tree k v) c.args.place faults e.reason)
    c.from_residual-in_err-keys.result c.in_err-keys.field-0.0 y.0 y.1 y.2 (λ k v faults root of part. inl c.in_err-keys.ensures.refused)

pub returns-in_err-values-clause-refused : goal.returns-in_err-values-clause-refused
returns-in_err-values-clause-refused c =
    let y = err_from_is_err_and c.from_residual-in_err-values.result c.from_residual-in_err-values.ensures.1 in
    passed_on (λ e. (k v : ShapeTree) (faults : List Reason) → RefusesAt c.args.writer.now (map_tree k v) c.args.place faults e.reason)
    c.from_residual-in_err-values.result c.in_err-values.field-0.0 y.0 y.1 y.2 (λ k v faults root of part. inl c.in_err-values.ensures.refused)

pub returns-clause-begins : goal.returns-clause-begins
returns-clause-begins c =
    let length = use_at (place_in c.args.writer.now c.args.place) length_kind (natural c.args.count) in
    let one = begun c.args.writer.now c.put.new.self c.below.new.self c.args.place c.in_ok-keys.keys length key
    c.in_ok-put.ensures.below c.in_ok-put.ensures.written c.in_ok-keys.ensures.place c.in_ok-keys.ensures.grows c.in_ok-keys.ensures.written in
    let b = both_begun c.args.writer.now c.below.new.self c.below-2.new.self c.args.place c.in_ok-keys.keys c.in_ok-values.values length
    one.0 one.1 c.in_ok-keys.ensures.inside c.requires c.in_ok-values.ensures.place c.in_ok-values.ensures.grows c.in_ok-values.ensures.written in
    let k = c.in_ok-keys.ensures.inside in
    let g = c.in_ok-values.ensures.grows.size in
    record { written = b.0; at_keys = b.1; at_values = b.2; keys_there = omega (arith, k, g); values_there = c.in_ok-values.ensures.inside }
