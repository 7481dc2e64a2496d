-- One sequence more.
use Rattle.std.proofs.Common.{◌+◌, All, [], ◌∷◌, None, map, drop, refl, sym, subst, ap, ◌∙◌, arith}
use Rattle.std.proofs.lemmas.List.{drop-map}
use Rattle.std.proofs.lemmas.List.Elements.{All-drop}
use Rattle.std.proofs.lemmas.Result.{err_from_is_err_and}
use Rattle.bitcode_shapes.specs.LawfulLists.{each_listed}
use Rattle.bitcode_coder.specs.Columns.{lengths, one, two}
use Rattle.bitcode_coder.specs.Coder.{JoinsListing, OverflowsWithListing}
use Rattle.bitcode_coder.specs.Length.{written_lengths}
use Rattle.bitcode_coder.proofs.EachLemmas.{joins_none, front_overflows, next_behind, each_more, front_of}
use Rattle.bitcode_coder.proofs.RefusalLemmas.{refusal_weaker}
use Rattle.bitcode_parts.specs.Lists.{list_columns}
use Rattle.bitcode_parts.proofs.ListWritingLemmas.{joins_sequence, overflows_sequence, joins_as, overflows_as}
use Rattle.bitcode_parts.proofs.lists.vec.push_short.Goals as goal

pub loop-item-init : goal.loop-item-init
loop-item-init g c = record {
  count = refl;
  joined =
      joins_none g.S.Shaped.data.lists g.S.Shaped.data.shape (list_columns (written_lengths c.args.sizes) (g.E.HoldsColumns.columns c.args.elements.now))
      (ap (two (one (lengths None) [])) (g.met.E.EncodeMany.of_shape c.args.elements.now) ∙ sym (g.met.S.Sequence.items_columns []));
  sizes = omega arith;
  room = omega (arith, c.requires.elements);
  form = refl;
}

pub loop-item-preserved : goal.loop-item-preserved
loop-item-preserved g c =
    let lists = g.S.Element.Shaped.data.lists in
    let shape = g.S.Element.Shaped.data.shape in
    let of = g.W.Part.of c.args.which.now in
    let items = g.S.Sequence.items c.part-sequence.result.now in
    let old_lengths = written_lengths c.loop-item.sizes in
    let new_lengths = written_lengths c.encode_less_than_255.new.self in
    let before = list_columns (written_lengths c.args.sizes) (g.E.HoldsColumns.columns c.args.elements.now) in
    let old = g.E.HoldsColumns.columns c.loop-item.elements in
    let new = g.E.HoldsColumns.columns c.encode_elements.new.elements in
    let form : _ = ap (two (one (lengths None) [])) (g.met.E.EncodeMany.of_shape c.args.elements.now) ∙ sym (g.met.S.Sequence.items_columns []) in
    let one_more : JoinsListing g.S.Shaped.data.lists g.S.Shaped.data.shape c.part-sequence.result.now (list_columns old_lengths old) (list_columns new_lengths new) =
    joins_as lists shape g.S.Shaped.data.lists g.S.Shaped.data.shape c.part-sequence.result.now items (g.met.S.Sequence.items_list c.part-sequence.result.now) g.met.S.Sequence.items_columns
    (list_columns old_lengths old) (list_columns new_lengths new)
    (joins_sequence lists shape items old_lengths new_lengths old new (rw c.element_count-size.ensures at c.encode_less_than_255.ensures.written) c.in_ok-encode_elements.ensures.joined) in
    record {
      count = omega (arith, c.loop-item.invariant.count);
      joined =
          each_more g.S.Shaped.data.lists g.S.Shaped.data.shape of c.args.items.now c.loop-item.item-index c.item-item.result c.loop-item-test.true c.item-item.is
          before (list_columns old_lengths old) (list_columns new_lengths new) form c.loop-item.invariant.joined
          (subst (λ t. JoinsListing g.S.Shaped.data.lists g.S.Shaped.data.shape t (list_columns old_lengths old) (list_columns new_lengths new)) c.part-sequence.ensures one_more);
      sizes = omega (arith, c.loop-item.invariant.sizes, c.encode_less_than_255.ensures.room);
      room = omega (arith, c.loop-item.invariant.room, c.in_ok-encode_elements.ensures.room, c.element_count-size.ensures, c.if-size-ge16.false);
      form = c.encode_elements.ensures.form ∙ c.loop-item.invariant.form;
    }

pub returns-in_err-encode_elements-clause-refused : goal.returns-in_err-encode_elements-clause-refused
returns-in_err-encode_elements-clause-refused g c =
    let refused = err_from_is_err_and c.from_residual.result c.from_residual.ensures.1 in
    let lists = g.S.Shaped.data.lists in
    let shape = g.S.Shaped.data.shape in
    let of = g.W.Part.of c.args.which.now in
    let i = c.loop-item.item-index in
    let t = c.part-sequence.result.now in
    let rest = map of (drop (i + 1) c.args.items.now) in
    let before = list_columns (written_lengths c.args.sizes) (g.E.HoldsColumns.columns c.args.elements.now) in
    let now = list_columns (written_lengths c.loop-item.sizes) (g.E.HoldsColumns.columns c.loop-item.elements) in
    let form : _ = ap (two (one (lengths None) [])) (g.met.E.EncodeMany.of_shape c.args.elements.now) ∙ sym (g.met.S.Sequence.items_columns []) in
    let step = next_behind of c.args.items.now i c.item-item.result c.loop-item-test.true c.item-item.is in
    let others =
    each_listed shape g.S.Shaped.data.is_value lists g.S.Shaped.data.same g.S.Shaped.data.in_order g.S.Shaped.data.lawful rest
    (subst (All g.S.Shaped.data.is_value) (drop-map of (i + 1) c.args.items.now)
    (All-drop g.S.Shaped.data.is_value (i + 1) (map of c.args.items.now) c.told_parts.ensures)) in
    rw (refused.1, refused.2) (
    refusal_weaker _ (λ each.
    front_overflows lists shape before form (map of c.args.items.now) rest (of c.item-item.result) now
    (front_of lists shape of c.args.items.now i before now (of c.item-item.result ∷ rest) step c.loop-item.invariant.joined)
    (subst (λ item. OverflowsWithListing lists shape item now) c.part-sequence.ensures
    (overflows_as g.S.Element.Shaped.data.lists g.S.Element.Shaped.data.shape lists shape t (g.S.Sequence.items t) (g.met.S.Sequence.items_list t) g.met.S.Sequence.items_columns now
    (overflows_sequence g.S.Element.Shaped.data.lists g.S.Element.Shaped.data.shape (g.S.Sequence.items t) (written_lengths c.loop-item.sizes) (g.E.HoldsColumns.columns c.loop-item.elements) each)))
    others.0 others.1) c.in_err-encode_elements.ensures.refused
    )
