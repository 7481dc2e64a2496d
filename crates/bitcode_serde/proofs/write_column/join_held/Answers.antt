-- What was gathered is what the values hold.
use Rattle.std.proofs.Common.{map, take, length, ◌∙◌}
use Rattle.std.proofs.lemmas.Result.{on_ok_weaker}
use Rattle.std.proofs.lemmas.Simd.{map-map}
use Rattle.bitcode_serde.proofs.JoiningLemmas.{columns_joined, entries_joined, memory_alone}
use Rattle.bitcode_serde.proofs.WrittenLemmas.{if_err}
use Rattle.bitcode_serde.proofs.write_column.join_held.Goals as goal

pub returns-clause-joined : goal.returns-clause-joined
returns-clause-joined g c =
    let held = take (length c.args.values.now) c.gather.new.held in
    on_ok_weaker c.encode_part_of_each.result
    (λ joins. columns_joined g.T.Case.kind g.T.Case.holder g.T.Shaped.data.is_value g.T.Shaped.data.lists g.T.Shaped.data.shape g.met.T.Case.laws.datum g.met.T.Case.laws.one_column
    (map (λ t. t.now) held) c.args.values.now _ _ (map-map _ _ held ∙ c.if-not-gather.ensures.gathered) joins)
    c.encode_part_of_each.ensures.joined

pub returns-clause-entries : goal.returns-clause-entries
returns-clause-entries g c =
    let held = take (length c.args.values.now) c.gather.new.held in
    on_ok_weaker c.encode_part_of_each.result
    (λ joins. entries_joined g.T.Case.kind g.T.Case.holder g.T.Shaped.data.is_value g.T.Shaped.data.lists g.T.Shaped.data.shape g.met.T.Case.laws.datum g.met.T.Case.laws.of_case
    g.met.T.Case.laws.entry g.T.Shaped.data.lawful.of_shape (map (λ t. t.now) held) c.args.values.now _ _ (map-map _ _ held ∙ c.if-not-gather.ensures.gathered)
    c.told_parts.ensures joins)
    c.encode_part_of_each.ensures.joined

pub returns-clause-refused : goal.returns-clause-refused
returns-clause-refused g c =
    let held = take (length c.args.values.now) c.gather.new.held in
    if_err _ _ c.encode_part_of_each.result
    (λ e h. memory_alone g.T.Case.kind g.T.Case.holder g.T.Shaped.data.is_value g.T.Shaped.data.lists g.T.Shaped.data.shape g.met.T.Case.laws.datum g.met.T.Case.laws.one_column
    (map (λ t. t.now) held) _ e.reason _ h) c.encode_part_of_each.ensures.refused
