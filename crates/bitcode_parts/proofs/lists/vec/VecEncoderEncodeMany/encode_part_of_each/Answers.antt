-- The first sequences, and those behind them.
use Rattle.std.proofs.Common.{◌≡◌, ◌-◌, ◌++◌, None, [], length, map, take, drop, sym, subst, ap, ◌∙◌, arith, append-nil, take-append-drop}
use Rattle.std.proofs.lemmas.List.{map-append, take_all, length-drop}
use Rattle.std.proofs.lemmas.Result.{on_ok_weaker}
use Rattle.bitcode_memory.specs.declared.error.Error.{Error}
use Rattle.bitcode_coder.specs.Columns.{lengths, one, two}
use Rattle.bitcode_coder.specs.Coder.{JoinsEach}
use Rattle.bitcode_coder.specs.Length.{written_lengths}
use Rattle.bitcode_coder.proofs.EachLemmas.{joins_both, front_of, front_overflows_each}
use Rattle.bitcode_coder.proofs.RefusalLemmas.{refused_weaker}
use Rattle.bitcode_parts.specs.Lists.{list_columns}
use Rattle.bitcode_parts.proofs.lists.vec.VecEncoderEncodeMany.encode_part_of_each.Goals as goal

pub returns-clause-joined : goal.returns-clause-joined
returns-clause-joined g c =
    let lists = g.S.Shaped.data.lists in
    let shape = g.S.Shaped.data.shape in
    let of = g.W.Part.of c.args.which.now in
    let items = c.args.items.now in
    let done = c.in_ok-done.done in
    let all : take (length items - done) (drop done items) ≡ drop done items = take_all (length items - done) (drop done items) (omega (arith, length-drop done items)) in
    let self = c.args.self.now in
    let front = c.encode_short.new.self in
    let back = c.encode_parts-2.new.encoder in
    let old = list_columns (written_lengths self.lengths) (g.E.HoldsColumns.columns self.elements) in
    let now = list_columns (written_lengths front.lengths) (g.E.HoldsColumns.columns front.elements) in
    let new = list_columns (written_lengths back.lengths) (g.E.HoldsColumns.columns back.elements) in
    let form : _ = ap (two (one (lengths None) [])) (g.met.E.EncodeMany.of_shape self.elements) ∙ sym (g.met.S.Sequence.items_columns []) in
    on_ok_weaker c.encode_parts-2.result (λ others.
    subst (λ ts. JoinsEach lists shape ts old new) (sym (map-append of (take done items) (drop done items)) ∙ ap (map of) (take-append-drop done items))
    (joins_both lists shape old now new (map of (take done items)) (map of (drop done items)) form c.in_ok-done.ensures.joined others)
    ) (rw all at c.encode_parts-2.ensures.joined)

pub returns-clause-refused : goal.returns-clause-refused
returns-clause-refused g c =
    let lists = g.S.Shaped.data.lists in
    let shape = g.S.Shaped.data.shape in
    let of = g.W.Part.of c.args.which.now in
    let items = c.args.items.now in
    let done = c.in_ok-done.done in
    let all : take (length items - done) (drop done items) ≡ drop done items = take_all (length items - done) (drop done items) (omega (arith, length-drop done items)) in
    let self = c.args.self.now in
    let front = c.encode_short.new.self in
    let behind = map of (drop done items) in
    let old = list_columns (written_lengths self.lengths) (g.E.HoldsColumns.columns self.elements) in
    let now = list_columns (written_lengths front.lengths) (g.E.HoldsColumns.columns front.elements) in
    let form : _ = ap (two (one (lengths None) [])) (g.met.E.EncodeMany.of_shape self.elements) ∙ sym (g.met.S.Sequence.items_columns []) in
    refused_weaker (λ (e : Error). e.reason) c.encode_parts-2.result (λ some.
    front_overflows_each lists shape old form (map of items) behind [] now
    (front_of lists shape of items done old now (behind ++ []) (sym (append-nil behind)) c.in_ok-done.ensures.joined) some [] tt
    ) (rw all at c.encode_parts-2.ensures.refused)
