-- The length joins its column, the keys theirs and the values theirs.
use Rattle.std.proofs.Common.{◌∙◌, sym, length, subst, ⊎_elim}
use Rattle.std.specs.Map.{keys_of, values_of}
use Rattle.std.proofs.lemmas.List.{length-map}
use Rattle.std.proofs.lemmas.Result.{err_from_is_err_and}
use Rattle.bitcode_memory.specs.declared.error.Error.{Error}
use Rattle.bitcode_shapes.specs.BuiltMaps.{keys_are, values_are}
use Rattle.bitcode_shapes.specs.LawfulLists.{each_listed}
use Rattle.bitcode_coder.specs.Length.{written_lengths}
use Rattle.bitcode_coder.proofs.RefusalLemmas.{refusal_weaker, refused_weaker}
use Rattle.bitcode_parts.proofs.ListWritingLemmas.{overflows_surely}
use Rattle.bitcode_derive.proofs.MapWritingLemmas.{on_ok_both, joins_map, overflows_keys, overflows_values}
use Rattle.bitcode_derive.proofs.map.MapEncoderEncoder.encode.Goals as goal

pub encode_pairs-requires-clause-are : goal.encode_pairs-requires-clause-are
encode_pairs-requires-clause-are g c =
    let entries = g.M.Mapping.entries c.args.t.now in
    let are = g.met.M.Mapping.entries_are c.args.t.now c.told.ensures in
    (keys_are g.M.Key.Shaped.data.is_value g.M.Value.Shaped.data.is_value entries are, values_are g.M.Key.Shaped.data.is_value g.M.Value.Shaped.data.is_value entries are)

pub returns-in_err-reserve-clause-refused : goal.returns-in_err-reserve-clause-refused
returns-in_err-reserve-clause-refused g c =
    let refused = err_from_is_err_and c.from_residual.result c.from_residual.ensures.1 in
    let entries = g.M.Mapping.entries c.args.t.now in
    let keys = g.M.Key.Shaped.data in
    let values = g.M.Value.Shaped.data in
    let old_keys = g.K.HoldsColumns.columns c.args.self.now.keys in
    let old_values = g.V.HoldsColumns.columns c.args.self.now.values in
    let are = g.met.M.Mapping.entries_are c.args.t.now c.told.ensures in
    let others = each_listed values.shape values.is_value values.lists values.same values.in_order g.M.Value.Shaped.data.lawful (values_of entries) (values_are keys.is_value values.is_value entries are) in
    rw (refused.1, refused.2) (
    refusal_weaker _ (λ surely.
    overflows_keys keys.shape values.shape keys.lists values.lists g.M.Shaped.data.lists g.M.Shaped.data.shape g.met.M.Mapping.entries_shape c.args.t.now entries
    (g.met.M.Mapping.entries_list c.args.t.now) (written_lengths c.args.self.now.lengths) old_keys old_values others.0 others.1
    (overflows_surely keys.lists keys.shape (keys_of entries) keys.is_value keys.same keys.in_order g.M.Key.Shaped.data.lawful (keys_are keys.is_value values.is_value entries are) old_keys
    (g.met.K.EncodeMany.surely c.args.self.now.keys (length (keys_of entries))
    (subst (λ n. g.K.HoldsColumns.surely_overflows c.args.self.now.keys n) (c.entry_count-count.ensures ∙ sym (length-map entries (λ e. e.0))) surely))))
    c.in_err-reserve.ensures.refused
    )

pub returns-in_err-reserve-2-clause-refused : goal.returns-in_err-reserve-2-clause-refused
returns-in_err-reserve-2-clause-refused g c =
    let refused = err_from_is_err_and c.from_residual-in_err-reserve-2.result c.from_residual-in_err-reserve-2.ensures.1 in
    let entries = g.M.Mapping.entries c.args.t.now in
    let keys = g.M.Key.Shaped.data in
    let values = g.M.Value.Shaped.data in
    let old_keys = g.K.HoldsColumns.columns c.args.self.now.keys in
    let old_values = g.V.HoldsColumns.columns c.args.self.now.values in
    let are = g.met.M.Mapping.entries_are c.args.t.now c.told.ensures in
    let others = each_listed keys.shape keys.is_value keys.lists keys.same keys.in_order g.M.Key.Shaped.data.lawful (keys_of entries) (keys_are keys.is_value values.is_value entries are) in
    rw (refused.1, refused.2) (
    refusal_weaker _ (λ surely.
    overflows_values keys.shape values.shape keys.lists values.lists g.M.Shaped.data.lists g.M.Shaped.data.shape g.met.M.Mapping.entries_shape c.args.t.now entries
    (g.met.M.Mapping.entries_list c.args.t.now) (written_lengths c.args.self.now.lengths) old_keys old_values others.0 others.1
    (overflows_surely values.lists values.shape (values_of entries) values.is_value values.same values.in_order g.M.Value.Shaped.data.lawful
    (values_are keys.is_value values.is_value entries are) old_values
    (g.met.V.EncodeMany.surely c.args.self.now.values (length (values_of entries))
    (subst (λ n. g.V.HoldsColumns.surely_overflows c.args.self.now.values n) (c.entry_count-count.ensures ∙ sym (length-map entries (λ e. e.1))) surely))))
    c.in_err-reserve-2.ensures.refused
    )

pub returns-clause-joined : goal.returns-clause-joined
returns-clause-joined g c =
    let entries = g.M.Mapping.entries c.args.t.now in
    on_ok_both c.encode_pairs.result (
    joins_map g.M.Key.Shaped.data.shape g.M.Value.Shaped.data.shape g.M.Key.Shaped.data.lists g.M.Value.Shaped.data.lists g.M.Shaped.data.lists g.M.Shaped.data.shape g.met.M.Mapping.entries_shape c.args.t.now entries
    (g.met.M.Mapping.entries_list c.args.t.now) (written_lengths c.args.self.now.lengths) (g.K.HoldsColumns.columns c.args.self.now.keys) (g.V.HoldsColumns.columns c.args.self.now.values)
    (written_lengths c.encode.new.self) (g.K.HoldsColumns.columns c.encode_pairs.new.keys) (g.V.HoldsColumns.columns c.encode_pairs.new.values)
    (rw c.entry_count-count.ensures at c.in_ok-encode.ensures.written))
    (rw c.in_ok-reserve.ensures.columns at c.encode_pairs.ensures.keys) (rw c.in_ok-reserve-2.ensures.columns at c.encode_pairs.ensures.values)

pub returns-clause-refused : goal.returns-clause-refused
returns-clause-refused g c =
    let entries = g.M.Mapping.entries c.args.t.now in
    let keys = g.M.Key.Shaped.data in
    let values = g.M.Value.Shaped.data in
    let old_lengths = written_lengths c.args.self.now.lengths in
    let old_keys = g.K.HoldsColumns.columns c.args.self.now.keys in
    let old_values = g.V.HoldsColumns.columns c.args.self.now.values in
    let are = g.met.M.Mapping.entries_are c.args.t.now c.told.ensures in
    let other_keys = each_listed keys.shape keys.is_value keys.lists keys.same keys.in_order g.M.Key.Shaped.data.lawful (keys_of entries) (keys_are keys.is_value values.is_value entries are) in
    let other_values = each_listed values.shape values.is_value values.lists values.same values.in_order g.M.Value.Shaped.data.lawful (values_of entries) (values_are keys.is_value values.is_value entries are) in
    refused_weaker (λ (e : Error). e.reason) c.encode_pairs.result (
    ⊎_elim
    (overflows_keys keys.shape values.shape keys.lists values.lists g.M.Shaped.data.lists g.M.Shaped.data.shape g.met.M.Mapping.entries_shape c.args.t.now entries
    (g.met.M.Mapping.entries_list c.args.t.now) old_lengths old_keys old_values other_values.0 other_values.1)
    (overflows_values keys.shape values.shape keys.lists values.lists g.M.Shaped.data.lists g.M.Shaped.data.shape g.met.M.Mapping.entries_shape c.args.t.now entries
    (g.met.M.Mapping.entries_list c.args.t.now) old_lengths old_keys old_values other_keys.0 other_keys.1)
    ) (rw c.in_ok-reserve-2.ensures.columns at (rw c.in_ok-reserve.ensures.columns at c.encode_pairs.ensures.refused))
