-- The length stands before the elements' columns.
use Rattle.std.proofs.Common.{map, length, subst, ap, ◌∙◌, ◌++◌, ◌∷◌, [], append_assoc}
use Rattle.std.specs.Prelude.{None}
use Rattle.std.proofs.lemmas.Result.{err_from_is_err_and}
use Rattle.bitcode_coder.specs.Columns.{lengths, one, two}
use Rattle.bitcode_coder.specs.Length.{written_lengths}
use Rattle.bitcode_coder.specs.Spelling.{natural, columns_bytes}
use Rattle.bitcode_coder.proofs.RefusalLemmas.{refusal_weaker}
use Rattle.bitcode_parts.proofs.ListWritingLemmas.{joins_sequence, overflows_sequence, overflows_surely, joins_as, overflows_as}
use Rattle.bitcode_parts.proofs.OneListLemmas.{list_bytes}
use Rattle.bitcode_parts.proofs.lists.vec.VecEncoderEncoder.write_directly.Goals as goal

pub returns-in_err-reserve-clause-refused : goal.returns-in_err-reserve-clause-refused
returns-in_err-reserve-clause-refused g c =
    let refused = err_from_is_err_and c.from_residual-in_err-reserve.result c.from_residual-in_err-reserve.ensures.1 in
    let lists = g.S.Element.Shaped.data.lists in
    let shape = g.S.Element.Shaped.data.shape in
    let items = g.S.Sequence.items c.args.t.now in
    let old_lengths = written_lengths c.args.self.now.lengths in
    let old = g.E.HoldsColumns.columns c.args.self.now.elements in
    rw (refused.1, refused.2) (
    refusal_weaker _ (λ surely.
    overflows_as lists shape g.S.Shaped.data.lists g.S.Shaped.data.shape c.args.t.now items (g.met.S.Sequence.items_list c.args.t.now) g.met.S.Sequence.items_columns
    (two (one (lengths None) (map natural old_lengths)) old)
    (overflows_sequence lists shape items old_lengths old
    (overflows_surely lists shape items g.S.Element.Shaped.data.is_value g.S.Element.Shaped.data.same g.S.Element.Shaped.data.in_order g.S.Element.Shaped.data.lawful
    (g.met.S.Sequence.items_are c.args.t.now c.told.ensures) old
    (g.met.E.EncodeMany.surely c.args.self.now.elements (length items) (subst (λ n. g.E.HoldsColumns.surely_overflows c.args.self.now.elements n) c.element_count-count.ensures surely)))))
    c.in_err-reserve.ensures.refused
    )

pub returns-in_err-encode_elements-clause-refused : goal.returns-in_err-encode_elements-clause-refused
returns-in_err-encode_elements-clause-refused g c =
    let refused = err_from_is_err_and c.from_residual-in_err-encode_elements.result c.from_residual-in_err-encode_elements.ensures.1 in
    let lists = g.S.Element.Shaped.data.lists in
    let shape = g.S.Element.Shaped.data.shape in
    let items = g.S.Sequence.items c.args.t.now in
    let old_lengths = written_lengths c.args.self.now.lengths in
    let old = g.E.HoldsColumns.columns c.args.self.now.elements in
    rw (refused.1, refused.2) (
    refusal_weaker _ (λ each.
    overflows_as lists shape g.S.Shaped.data.lists g.S.Shaped.data.shape c.args.t.now items (g.met.S.Sequence.items_list c.args.t.now) g.met.S.Sequence.items_columns
    (two (one (lengths None) (map natural old_lengths)) old) (overflows_sequence lists shape items old_lengths old each)
    ) (rw c.in_ok-reserve.ensures.columns at c.in_err-encode_elements.ensures.refused)
    )

pub returns-clause-written : goal.returns-clause-written
returns-clause-written g c done =
    let lists = g.S.Element.Shaped.data.lists in
    let shape = g.S.Element.Shaped.data.shape in
    let items = g.S.Sequence.items c.args.t.now in
    let count = c.element_count-count.result in
    let old_lengths = written_lengths c.args.self.now.lengths in
    let old = g.E.HoldsColumns.columns c.args.self.now.elements in
    let new = g.E.HoldsColumns.columns c.encode_elements.new.elements in
    record {
      new = two (one (lengths None) (map natural (old_lengths ++ count ∷ []))) new;
      joined =
          joins_as lists shape g.S.Shaped.data.lists g.S.Shaped.data.shape c.args.t.now items (g.met.S.Sequence.items_list c.args.t.now) g.met.S.Sequence.items_columns
          (two (one (lengths None) (map natural old_lengths)) old) _
          (joins_sequence lists shape items old_lengths (old_lengths ++ count ∷ []) old new (ap (λ n. old_lengths ++ n ∷ []) c.element_count-count.ensures)
          (rw c.in_ok-reserve.ensures.columns at c.in_ok-encode_elements.ensures.joined));
      written =
          list_bytes old_lengths old new c.requires count c.args.out.now.items c.write_one.new.out.items c.collect_into.new.out.items
          c.in_ok-write_one.ensures.written
          (c.in_ok-collect_into.ensures.written
          ∙ ap (λ front. front ++ columns_bytes new) (c.in_ok-write_elements.ensures.unchanged c.if-branch.false));
    }

pub returns-then-branch-clause-written : goal.returns-then-branch-clause-written
returns-then-branch-clause-written g c done =
    let lists = g.S.Element.Shaped.data.lists in
    let shape = g.S.Element.Shaped.data.shape in
    let items = g.S.Sequence.items c.args.t.now in
    let count = c.element_count-count.result in
    let old_lengths = written_lengths c.args.self.now.lengths in
    let old = g.E.HoldsColumns.columns c.args.self.now.elements in
    let all = c.in_ok-write_elements.ensures.written c.if-branch.true in
    record {
      new = two (one (lengths None) (map natural (old_lengths ++ count ∷ []))) all.new;
      joined =
          joins_as lists shape g.S.Shaped.data.lists g.S.Shaped.data.shape c.args.t.now items (g.met.S.Sequence.items_list c.args.t.now) g.met.S.Sequence.items_columns
          (two (one (lengths None) (map natural old_lengths)) old) _
          (joins_sequence lists shape items old_lengths (old_lengths ++ count ∷ []) old all.new (ap (λ n. old_lengths ++ n ∷ []) c.element_count-count.ensures) all.joined);
      written =
          list_bytes old_lengths old all.new c.requires count c.args.out.now.items c.write_one.new.out.items c.write_elements.new._out.items
          c.in_ok-write_one.ensures.written all.written;
    }

pub returns-then-branch-clause-begins : goal.returns-then-branch-clause-begins
returns-then-branch-clause-begins g c =
    let length_first = c.in_ok-write_one.ensures.begins in
    let elements_then = c.in_ok-write_elements.ensures.begins in
    record {
      more = length_first.more ++ elements_then.more;
      whole =
          elements_then.whole ∙ ap (λ front. front ++ elements_then.more) length_first.whole
          ∙ append_assoc c.args.out.now.items length_first.more elements_then.more;
    }
