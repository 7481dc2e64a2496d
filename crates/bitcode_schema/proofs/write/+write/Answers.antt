-- By the node, and part by part.
use Rattle.std.proofs.Common.{◌≡◌, ◌<◌, ◌≤◌, ◌^◌, ◌+◌, ◌/◌, false, ◌∷◌, ◌++◌, [], true, None, Some, inr, refl, map, length, max, take, ap, sym, subst, All, ◌∙◌, arith}
use Rattle.std.specs.List.{flat_map, take-map, drop-map}
use Rattle.std.proofs.lemmas.Bool.{eqb-true, eqb-false, leb-true}
use Rattle.bitcode_shapes.specs.LawfulPairs.{both as and_both}
use Rattle.std.proofs.Math.Seq.{take-length}
use Rattle.std.proofs.lemmas.List.{length-map, nil_from_length}
use Rattle.std.proofs.lemmas.Simd.{map-map}
use Rattle.bitcode_columns.specs.VariantColumn.{variant_text}
use Rattle.bitcode_schema.specs.declared.schema.SchemaNode.TheVariants as node
use Rattle.std.proofs.lemmas.List.Elements.{All-take, All-drop, All-head, All-map}
use Rattle.std.proofs.lemmas.Result.{on_ok_weaker, IfErr-weaker, err_from_is_err_and}
use Rattle.bitcode_coder.specs.LengthColumn.{length_bytes}
use Rattle.bitcode_shapes.specs.Shape.{array_shape, bool_shape, choice_shape, float_shape, map_shape, no_shapes, pair_shape, seq_shape, shape_and, text_shape, unit_shape, IsWithin}
use Rattle.bitcode_shapes.specs.Checked.{char_shape, nanosecond_shape, nonzero_shape}
use Rattle.bitcode_shapes.specs.Ints.{int_shape}
use Rattle.bitcode_coder.specs.Columns.{bools, floats, texts}
use Rattle.bitcode_untyped.specs.Leaves.{leaf_of, char_leaf}
use Rattle.bitcode_untyped.specs.declared.value.Value.{out-Value}
use Rattle.bitcode_schema.specs.Leaves.{int_leaf, is_signed, width_of}
use Rattle.bitcode_schema.specs.declared.schema.IntKind.TheVariants as int
use Rattle.std.specs.Float.{binary32, binary64}
use Rattle.bitcode_schema.specs.Choosing.{chosen, of_variant, option_variant, shapes_from, WritesPayloads}
use Rattle.bitcode_schema.specs.Depth.{depth, greatest, has_few_variants, most_variants}
use Rattle.bitcode_schema.specs.Forms.{content_under, enum_shape, parts_of, shape_of, fields_shape, fields_content, leaf_content, list_content, pair_content, span_contents}
use Rattle.bitcode_schema.specs.Parts.{choice_under, contents_of, enum_under, option_content, payload_under, payloads_under, row_content, unit_content}
use Rattle.bitcode_schema.specs.Views.{boxed, key_in, value_in, variant_in, payload_in, option_of, enum_of, elements_of, pairs_of, fields_of, under}
use Rattle.bitcode_schema.specs.Writing.{Writes, HasStranger}
use Rattle.bitcode_schema.proofs.FieldWritingLemmas.{front_deep, back_deep, fields_written, front_stranger, back_stranger, only_one}
use Rattle.bitcode_schema.proofs.SeenLemmas.{refusal_as, stranger_other, writes_seen, stranger_seen, writes_as, stranger_as, writes_mapped, stranger_mapped}
use Rattle.bitcode_schema.proofs.UnitLemmas.{units_written}
use Rattle.bitcode_schema.proofs.WholeLemmas.{whole_arrays, stranger_part, stranger_sized, whole_lists, stranger_element, stranger_long, whole_maps, stranger_key, stranger_value, writes_field, stranger_field, stranger_without, writes_rows, stranger_in_rows, stranger_of_size}
use Rattle.bitcode_schema.proofs.CaseWritingLemmas.{one_more, payloads_more, payloads_count, payload_of_node, one_of, depth_at, few_nodes, few_parts, whole_options, stranger_option, options_below, writes_single, stranger_single, stranger_of_single, chosen_node, node_shapes, several, several_shape}
use Rattle.bitcode_schema.proofs.ChoiceWritingLemmas.{writes_choices, stranger_of_variant, stranger_variant}
use Rattle.bitcode_schema.proofs.ContentLemmas.{content-Bool, content-Char, content-Duration, content-F32, content-F64, content-Int, content-NonZero, content-Str, content-Unit, content-Uuid, content-List, content-Map, content-Array, content-Option, content-Result, content-Tuple, content-Struct, content-Enum}
use Rattle.bitcode_schema.proofs.NodeLemmas.{few-Tuple, few-Struct, few-Enum, depth-Tuple, depth-Struct, depth-Enum}
use Rattle.bitcode_schema.proofs.PartShapeLemmas.{option_shape, result_shape, tuple_shape, struct_shape, enum_node_shape}
use Rattle.bitcode_schema.proofs.ShapeLemmas.{shape-Never, shape-Bool, shape-Char, shape-Duration, shape-F32, shape-F64, shape-Int, shape-NonZero, shape-Str, shape-Unit, shape-Uuid, shape-List, shape-Map, shape-Array}
use Rattle.bitcode_schema.proofs.write.+write.Goals as goal

pub write_arrays-returns-in_err-held-clause-refused : goal.write_arrays-returns-in_err-held-clause-refused
write_arrays-returns-in_err-held-clause-refused t c =
    let p = err_from_is_err_and c.from_residual.result c.from_residual.ensures.1 in
    rw (p.1, p.2) (refusal_as _ (stranger_other elements_of (list_content (content_under c.args.element.now)) (array_shape c.args.size (shape_of c.args.element.now)) (map (λ v. v.now) c.args.values.now)) c.in_err-held.ensures.refused)

pub write_arrays-returns-then-not-are_of_size-clause-refused : goal.write_arrays-returns-then-not-are_of_size-clause-refused
write_arrays-returns-then-not-are_of_size-clause-refused t c =
    rw c.err.ensures
    (inr (
      refl,
      stranger_sized (content_under c.args.element.now) (shape_of c.args.element.now) (map (λ v. v.now) c.args.values.now) (map (λ h. h.now) c.in_ok-held.held.items) c.in_ok-held.ensures.held c.args.size
          (subst (λ hs. All (λ l. length l ≡ c.args.size) (map (λ h. h.now) hs) → ⊥) c.deref.ensures.value c.if-not-are_of_size.ensures),
    ))

pub write_arrays-returns-clause-written : goal.write_arrays-returns-clause-written
write_arrays-returns-clause-written t c =
    let sized = subst (λ hs. All (λ l. length l ≡ c.args.size) (map (λ h. h.now) hs)) c.deref.ensures.value c.if-not-are_of_size.ensures in
    let joined = c.in_ok-parts.ensures.joined ∙ ap (λ hs. flat_map (λ l. l) (map (λ h. h.now) hs)) c.deref-2.ensures.value in
    let few : length (map (λ v. v.now) c.in_ok-parts.parts.items) < 2 ^ 64 = let ps = c.in_ok-parts.parts in omega (arith, length-map ps.items (λ v. v.now), ps.ok.0, ps.ok.1, ps.small) in
    on_ok_weaker c.write_each.result
    (λ w. whole_arrays (content_under c.args.element.now) (shape_of c.args.element.now) (map (λ v. v.now) c.args.values.now) (map (λ h. h.now) c.in_ok-held.held.items) c.in_ok-held.ensures.held c.args.size (map (λ v. v.now) c.in_ok-parts.parts.items) joined sized few c.args.out.now.items c.write_each.new.out.items
    (subst (λ ps. Writes (content_under c.args.element.now) (shape_of c.args.element.now) (map (λ v. v.now) ps) c.args.out.now.items c.write_each.new.out.items) c.deref-3.ensures.value w)) c.write_each.ensures.written

pub write_arrays-returns-clause-refused : goal.write_arrays-returns-clause-refused
write_arrays-returns-clause-refused t c =
    let joined = c.in_ok-parts.ensures.joined ∙ ap (λ hs. flat_map (λ l. l) (map (λ h. h.now) hs)) c.deref-2.ensures.value in
    IfErr-weaker c.write_each.result _ _
    (λ e. refusal_as e.reason
    (λ stranger. stranger_part (content_under c.args.element.now) (shape_of c.args.element.now) (map (λ v. v.now) c.args.values.now) (map (λ h. h.now) c.in_ok-held.held.items) c.in_ok-held.ensures.held c.args.size (map (λ v. v.now) c.in_ok-parts.parts.items) joined
    (subst (λ ps. HasStranger (content_under c.args.element.now) (shape_of c.args.element.now) (map (λ v. v.now) ps)) c.deref-3.ensures.value stranger))) c.write_each.ensures.refused

pub write_lists-returns-in_err-held-clause-refused : goal.write_lists-returns-in_err-held-clause-refused
write_lists-returns-in_err-held-clause-refused t c =
    let p = err_from_is_err_and c.from_residual.result c.from_residual.ensures.1 in
    rw (p.1, p.2) (refusal_as _ (stranger_other elements_of (list_content (content_under c.args.element.now)) (seq_shape c.args.capacity (shape_of c.args.element.now)) (map (λ v. v.now) c.args.values.now)) c.in_err-held.ensures.refused)

pub write_lists-returns-then-not-are_within-clause-refused : goal.write_lists-returns-then-not-are_within-clause-refused
write_lists-returns-then-not-are_within-clause-refused t c =
    rw c.err.ensures
    (inr (
      refl,
      stranger_long (content_under c.args.element.now) (shape_of c.args.element.now) (map (λ v. v.now) c.args.values.now) (map (λ h. h.now) c.in_ok-held.held.items) c.in_ok-held.ensures.held c.args.capacity
          (subst (λ hs. All (λ l. IsWithin c.args.capacity (length l)) (map (λ h. h.now) hs) → ⊥) c.deref.ensures.value c.if-not-are_within.ensures),
    ))

pub write_lists-returns-clause-written : goal.write_lists-returns-clause-written
write_lists-returns-clause-written t c =
    let within = subst (λ hs. All (λ l. IsWithin c.args.capacity (length l)) (map (λ h. h.now) hs)) c.deref.ensures.value c.if-not-are_within.ensures in
    let lengths = c.in_ok-write_lengths.ensures.written ∙ ap (λ hs. c.args.out.now.items ++ length_bytes (map (λ l. length l) (map (λ h. h.now) hs))) c.deref-2.ensures.value in
    let joined = c.in_ok-parts.ensures.joined ∙ ap (λ hs. flat_map (λ l. l) (map (λ h. h.now) hs)) c.deref-3.ensures.value in
    on_ok_weaker c.write_each.result
    (λ w. whole_lists (content_under c.args.element.now) (shape_of c.args.element.now) (map (λ v. v.now) c.args.values.now) (map (λ h. h.now) c.in_ok-held.held.items) c.in_ok-held.ensures.held c.args.capacity (map (λ v. v.now) c.in_ok-parts.parts.items) joined within c.args.out.now.items c.write_lengths.new.out.items
    c.write_each.new.out.items lengths
    (subst (λ ps. Writes (content_under c.args.element.now) (shape_of c.args.element.now) (map (λ v. v.now) ps) c.write_lengths.new.out.items c.write_each.new.out.items) c.deref-4.ensures.value w)) c.write_each.ensures.written

pub write_lists-returns-clause-refused : goal.write_lists-returns-clause-refused
write_lists-returns-clause-refused t c =
    let joined = c.in_ok-parts.ensures.joined ∙ ap (λ hs. flat_map (λ l. l) (map (λ h. h.now) hs)) c.deref-3.ensures.value in
    IfErr-weaker c.write_each.result _ _
    (λ e. refusal_as e.reason
    (λ stranger. stranger_element (content_under c.args.element.now) (shape_of c.args.element.now) (map (λ v. v.now) c.args.values.now) (map (λ h. h.now) c.in_ok-held.held.items) c.in_ok-held.ensures.held c.args.capacity (map (λ v. v.now) c.in_ok-parts.parts.items) joined
    (subst (λ ps. HasStranger (content_under c.args.element.now) (shape_of c.args.element.now) (map (λ v. v.now) ps)) c.deref-4.ensures.value stranger))) c.write_each.ensures.refused

pub write_maps-returns-in_err-held-clause-refused : goal.write_maps-returns-in_err-held-clause-refused
write_maps-returns-in_err-held-clause-refused t c =
    let p = err_from_is_err_and c.from_residual.result c.from_residual.ensures.1 in
    rw (p.1, p.2) (refusal_as _ (stranger_other pairs_of (list_content (pair_content (content_under c.args.key.now) (content_under c.args.value.now))) (map_shape (shape_of c.args.key.now) (shape_of c.args.value.now)) (map (λ v. v.now) c.args.values.now)) c.in_err-held.ensures.refused)

pub write_maps-returns-in_err-write_each-clause-refused : goal.write_maps-returns-in_err-write_each-clause-refused
write_maps-returns-in_err-write_each-clause-refused t c =
    let p = err_from_is_err_and c.from_residual-in_err-write_each.result c.from_residual-in_err-write_each.ensures.1 in
    rw (p.1, p.2) (refusal_as _ (λ stranger. stranger_key (content_under c.args.key.now) (content_under c.args.value.now) (shape_of c.args.key.now) (shape_of c.args.value.now) (map (λ v. v.now) c.args.values.now) (map (λ h. h.now) c.in_ok-held.held.items) c.in_ok-held.ensures.held (map (λ v. v.now) c.in_ok-keys.keys.items) (map (λ v. v.now) c.in_ok-keys.parts.items) (c.in_ok-keys.ensures.keys ∙ ap (λ hs. map key_in (flat_map (λ l. l) (map (λ h. h.now) hs))) c.deref-2.ensures.value) (c.in_ok-keys.ensures.values ∙ ap (λ hs. map value_in (flat_map (λ l. l) (map (λ h. h.now) hs))) c.deref-2.ensures.value) (subst (λ ps. HasStranger (content_under c.args.key.now) (shape_of c.args.key.now) (map (λ v. v.now) ps)) c.deref-3.ensures.value stranger)) c.in_err-write_each.ensures.refused)

pub write_maps-returns-clause-written : goal.write_maps-returns-clause-written
write_maps-returns-clause-written t c =
    let lengths = c.in_ok-write_lengths.ensures.written ∙ ap (λ hs. c.args.out.now.items ++ length_bytes (map (λ l. length l) (map (λ h. h.now) hs))) c.deref.ensures.value in
    on_ok_weaker c.write_each-2.result
    (λ w. whole_maps (content_under c.args.key.now) (content_under c.args.value.now) (shape_of c.args.key.now) (shape_of c.args.value.now) (map (λ v. v.now) c.args.values.now) (map (λ h. h.now) c.in_ok-held.held.items) c.in_ok-held.ensures.held (map (λ v. v.now) c.in_ok-keys.keys.items) (map (λ v. v.now) c.in_ok-keys.parts.items) (c.in_ok-keys.ensures.keys ∙ ap (λ hs. map key_in (flat_map (λ l. l) (map (λ h. h.now) hs))) c.deref-2.ensures.value) (c.in_ok-keys.ensures.values ∙ ap (λ hs. map value_in (flat_map (λ l. l) (map (λ h. h.now) hs))) c.deref-2.ensures.value)
    c.args.out.now.items c.write_lengths.new.out.items c.write_each.new.out.items c.write_each-2.new.out.items lengths
    (subst (λ ps. Writes (content_under c.args.key.now) (shape_of c.args.key.now) (map (λ v. v.now) ps) c.write_lengths.new.out.items c.write_each.new.out.items) c.deref-3.ensures.value c.in_ok-write_each.ensures.written)
    (subst (λ ps. Writes (content_under c.args.value.now) (shape_of c.args.value.now) (map (λ v. v.now) ps) c.write_each.new.out.items c.write_each-2.new.out.items) c.deref-4.ensures.value w)) c.write_each-2.ensures.written

pub write_maps-returns-clause-refused : goal.write_maps-returns-clause-refused
write_maps-returns-clause-refused t c =
    IfErr-weaker c.write_each-2.result _ _
    (λ e. refusal_as e.reason
    (λ stranger. stranger_value (content_under c.args.key.now) (content_under c.args.value.now) (shape_of c.args.key.now) (shape_of c.args.value.now) (map (λ v. v.now) c.args.values.now) (map (λ h. h.now) c.in_ok-held.held.items) c.in_ok-held.ensures.held (map (λ v. v.now) c.in_ok-keys.keys.items) (map (λ v. v.now) c.in_ok-keys.parts.items) (c.in_ok-keys.ensures.keys ∙ ap (λ hs. map key_in (flat_map (λ l. l) (map (λ h. h.now) hs))) c.deref-2.ensures.value) (c.in_ok-keys.ensures.values ∙ ap (λ hs. map value_in (flat_map (λ l. l) (map (λ h. h.now) hs))) c.deref-2.ensures.value)
    (subst (λ ps. HasStranger (content_under c.args.value.now) (shape_of c.args.value.now) (map (λ v. v.now) ps)) c.deref-4.ensures.value stranger))) c.write_each-2.ensures.refused

pub write_fields-write_fields-requires : goal.write_fields-write_fields-requires
write_fields-write_fields-requires t c =
    let deep = front_deep (λ n. n.now) c.args.nodes.now c.split_at.result.0.now c.split_at.result.1.now c.split_at.ensures.front c.split_at.ensures.back in
    let few = subst (λ ns. All (λ n. has_few_variants n ≡ true) (map (λ n. n.now) ns)) (sym c.split_at.ensures.front)
    (subst (All (λ n. has_few_variants n ≡ true)) (take-map (λ n. n.now) (length c.args.nodes.now / 2) c.args.nodes.now) (All-take (λ n. has_few_variants n ≡ true) (length c.args.nodes.now / 2) (map (λ n. n.now) c.args.nodes.now) c.requires.few)) in
    (omega (arith, c.decreases, deep, c.if-count-gt1.true, c.split_at.ensures.front_len), (few, (omega (arith, c.if-count-gt1.true, c.split_at.ensures.front_len), omega (arith, c.requires.fits, c.split_at.ensures.front_len))))

pub write_fields-write_fields-requires-then-count-gt1 : goal.write_fields-write_fields-requires-then-count-gt1
write_fields-write_fields-requires-then-count-gt1 t c =
    let deep = back_deep (λ n. n.now) c.args.nodes.now c.split_at.result.0.now c.split_at.result.1.now c.split_at.ensures.front c.split_at.ensures.back in
    let few = subst (λ ns. All (λ n. has_few_variants n ≡ true) (map (λ n. n.now) ns)) (sym c.split_at.ensures.back)
    (subst (All (λ n. has_few_variants n ≡ true)) (drop-map (λ n. n.now) (length c.args.nodes.now / 2) c.args.nodes.now) (All-drop (λ n. has_few_variants n ≡ true) (length c.args.nodes.now / 2) (map (λ n. n.now) c.args.nodes.now) c.requires.few)) in
    (omega (arith, c.decreases, deep, c.if-count-gt1.true, c.split_at.ensures.back_len), (few, (omega (arith, c.if-count-gt1.true, c.split_at.ensures.back_len), omega (arith, c.requires.fits, c.split_at.ensures.back_len, c.split_at.ensures.front_len))))

pub write_fields-write_each-requires : goal.write_fields-write_each-requires
write_fields-write_each-requires t c =
    let one = only_one c.args.nodes.now c.index-nodes-0.result c.requires.some c.if-count-gt1.false c.index-nodes-0.is in
    let few = All-head (λ n. has_few_variants n ≡ true) c.index-nodes-0.result.now [] (subst (λ ns. All (λ n. has_few_variants n ≡ true) (map (λ n. n.now) ns)) one c.requires.few) in
    let deep : greatest (map depth (map (λ n. n.now) c.args.nodes.now)) ≡ max (depth c.index-nodes-0.result.now) 0 = ap (λ ns. greatest (map depth (map (λ n. n.now) ns))) one in
    (grind (arith, c.decreases, deep), few)

pub write_fields-returns-in_err-write_fields-clause-refused : goal.write_fields-returns-in_err-write_fields-clause-refused
write_fields-returns-in_err-write_fields-clause-refused t c =
    let p = err_from_is_err_and c.from_residual.result c.from_residual.ensures.1 in
    rw (p.1, p.2) (refusal_as _ (λ stranger. front_stranger (λ n. n.now) c.args.nodes.now c.split_at.result.0.now c.split_at.result.1.now c.split_at.ensures.front c.split_at.ensures.back c.if-count-gt1.true c.args.at (map (λ r. r.now) c.args.rows.now) stranger) c.in_err-write_fields.ensures.refused)

pub write_fields-returns-then-count-gt1-clause-written : goal.write_fields-returns-then-count-gt1-clause-written
write_fields-returns-then-count-gt1-clause-written t c =
    on_ok_weaker c.write_fields-then-count-gt1.result
    (fields_written (λ n. n.now) c.args.nodes.now c.split_at.result.0.now c.split_at.result.1.now c.split_at.ensures.front c.split_at.ensures.back c.if-count-gt1.true c.args.at (map (λ r. r.now) c.args.rows.now) c.args.out.now.items c.write_fields.new.out.items
    c.write_fields-then-count-gt1.new.out.items c.in_ok-write_fields.ensures.written) c.write_fields-then-count-gt1.ensures.written

pub write_fields-returns-then-count-gt1-clause-refused : goal.write_fields-returns-then-count-gt1-clause-refused
write_fields-returns-then-count-gt1-clause-refused t c =
    IfErr-weaker c.write_fields-then-count-gt1.result _ _
    (λ e. refusal_as e.reason (back_stranger (λ n. n.now) c.args.nodes.now c.split_at.result.0.now c.split_at.result.1.now c.split_at.ensures.front c.split_at.ensures.back c.if-count-gt1.true c.args.at (map (λ r. r.now) c.args.rows.now)))
    c.write_fields-then-count-gt1.ensures.refused

pub write_fields-returns-in_err-parts-clause-refused : goal.write_fields-returns-in_err-parts-clause-refused
write_fields-returns-in_err-parts-clause-refused t c =
    let one = only_one c.args.nodes.now c.index-nodes-0.result c.requires.some c.if-count-gt1.false c.index-nodes-0.is in
    let p = err_from_is_err_and c.from_residual-in_err-parts.result c.from_residual-in_err-parts.ensures.1 in
    rw (p.1, p.2, one)
    (refusal_as _ (stranger_without (content_under c.index-nodes-0.result.now) (shape_of c.index-nodes-0.result.now) c.args.at (map (λ r. r.now) c.args.rows.now)) c.in_err-parts.ensures.refused)

pub write_fields-returns-clause-written : goal.write_fields-returns-clause-written
write_fields-returns-clause-written t c =
    let one = only_one c.args.nodes.now c.index-nodes-0.result c.requires.some c.if-count-gt1.false c.index-nodes-0.is in
    rw one
    (on_ok_weaker c.write_each.result
    (λ w. writes_field (content_under c.index-nodes-0.result.now) (shape_of c.index-nodes-0.result.now) c.args.at (map (λ r. r.now) c.args.rows.now) (map (λ v. v.now) c.in_ok-parts.parts.items) c.in_ok-parts.ensures.held
    c.args.out.now.items c.write_each.new.out.items
    (subst (λ ps. Writes (content_under c.index-nodes-0.result.now) (shape_of c.index-nodes-0.result.now) (map (λ v. v.now) ps) c.args.out.now.items
    c.write_each.new.out.items) c.deref.ensures.value w)) c.write_each.ensures.written)

pub write_fields-returns-clause-refused : goal.write_fields-returns-clause-refused
write_fields-returns-clause-refused t c =
    let one = only_one c.args.nodes.now c.index-nodes-0.result c.requires.some c.if-count-gt1.false c.index-nodes-0.is in
    rw one
    (IfErr-weaker c.write_each.result _ _
    (λ e. refusal_as e.reason
    (λ stranger. stranger_field (content_under c.index-nodes-0.result.now) (shape_of c.index-nodes-0.result.now) c.args.at (map (λ r. r.now) c.args.rows.now) (map (λ v. v.now) c.in_ok-parts.parts.items) c.in_ok-parts.ensures.held
    (subst (λ ps. HasStranger (content_under c.index-nodes-0.result.now) (shape_of c.index-nodes-0.result.now) (map (λ v. v.now) ps)) c.deref.ensures.value stranger)))
    c.write_each.ensures.refused)

pub write_rows-returns-in_err-rows-clause-refused : goal.write_rows-returns-in_err-rows-clause-refused
write_rows-returns-in_err-rows-clause-refused t c =
    let p = err_from_is_err_and c.from_residual.result c.from_residual.ensures.1 in
    rw (p.1, p.2) (refusal_as _ (stranger_other fields_of (fields_content (contents_of (map (λ n. n.now) c.args.nodes.now))) (fields_shape (map shape_of (map (λ n. n.now) c.args.nodes.now))) (map (λ v. v.now) c.args.values.now)) c.in_err-rows.ensures.refused)

pub write_rows-returns-then-not-are_of_size-clause-refused : goal.write_rows-returns-then-not-are_of_size-clause-refused
write_rows-returns-then-not-are_of_size-clause-refused t c =
    rw c.err.ensures
    (inr (
      refl,
      stranger_of_size (contents_of (map (λ n. n.now) c.args.nodes.now)) (fields_shape (map shape_of (map (λ n. n.now) c.args.nodes.now))) (map (λ v. v.now) c.args.values.now) (map (λ r. r.now) c.in_ok-rows.rows.items) c.in_ok-rows.ensures.held
          (λ each. subst (λ rs. All (λ l. length l ≡ length c.args.nodes.now) (map (λ r. r.now) rs) → ⊥) c.deref.ensures.value c.if-not-are_of_size.ensures
          (subst (λ n. All (λ l. length l ≡ n) (map (λ r. r.now) c.in_ok-rows.rows.items)) (length-map (map (λ n. n.now) c.args.nodes.now) content_under ∙ length-map c.args.nodes.now (λ n. n.now)) each)),
    ))

pub write_rows-returns-then-is_empty-clause-written : goal.write_rows-returns-then-is_empty-clause-written
write_rows-returns-then-is_empty-clause-written t c =
    let none : c.args.nodes.now ≡ [] = nil_from_length c.args.nodes.now (eqb-true (length c.args.nodes.now) 0 (sym c.if-is_empty.ensures)) in
    let sized = subst (λ ns. All (λ l. length l ≡ length ns) (map (λ r. r.now) c.in_ok-rows.rows.items)) none (subst (λ rs. All (λ l. length l ≡ length c.args.nodes.now) (map (λ r. r.now) rs)) c.deref.ensures.value c.if-not-are_of_size.ensures) in
    let each = units_written (row_content [] 0) (map (λ r. r.now) c.in_ok-rows.rows.items) c.args.out.now.items (λ k d lt. refl) in
    subst (λ ns. Writes (λ v. under (fields_of v) (fields_content (contents_of (map (λ n. n.now) ns)))) (fields_shape (map shape_of (map (λ n. n.now) ns))) (map (λ v. v.now) c.args.values.now) c.args.out.now.items c.args.out.now.items)
    (sym none)
    (writes_rows [] unit_shape (map (λ v. v.now) c.args.values.now) (map (λ r. r.now) c.in_ok-rows.rows.items) c.in_ok-rows.ensures.held sized c.args.out.now.items c.args.out.now.items each)

pub write_rows-returns-clause-written : goal.write_rows-returns-clause-written
write_rows-returns-clause-written t c =
    on_ok_weaker c.write_fields.result
    (λ w. writes_rows (contents_of (map (λ n. n.now) c.args.nodes.now)) (fields_shape (map shape_of (map (λ n. n.now) c.args.nodes.now))) (map (λ v. v.now) c.args.values.now) (map (λ r. r.now) c.in_ok-rows.rows.items) c.in_ok-rows.ensures.held (subst (λ n. All (λ l. length l ≡ n) (map (λ r. r.now) c.in_ok-rows.rows.items)) (sym (length-map (map (λ n. n.now) c.args.nodes.now) content_under ∙ length-map c.args.nodes.now (λ n. n.now))) (subst (λ rs. All (λ l. length l ≡ length c.args.nodes.now) (map (λ r. r.now) rs)) c.deref.ensures.value c.if-not-are_of_size.ensures)) c.args.out.now.items c.write_fields.new.out.items
    (subst (λ rs. Writes (row_content (contents_of (map (λ n. n.now) c.args.nodes.now)) 0) (fields_shape (map shape_of (map (λ n. n.now) c.args.nodes.now))) (map (λ r. r.now) rs) c.args.out.now.items c.write_fields.new.out.items) c.deref-2.ensures.value w))
    c.write_fields.ensures.written

pub write_rows-returns-clause-refused : goal.write_rows-returns-clause-refused
write_rows-returns-clause-refused t c =
    IfErr-weaker c.write_fields.result _ _
    (λ e. refusal_as e.reason
    (λ stranger. stranger_in_rows (contents_of (map (λ n. n.now) c.args.nodes.now)) (fields_shape (map shape_of (map (λ n. n.now) c.args.nodes.now))) (map (λ v. v.now) c.args.values.now) (map (λ r. r.now) c.in_ok-rows.rows.items) c.in_ok-rows.ensures.held (subst (λ n. All (λ l. length l ≡ n) (map (λ r. r.now) c.in_ok-rows.rows.items)) (sym (length-map (map (λ n. n.now) c.args.nodes.now) content_under ∙ length-map c.args.nodes.now (λ n. n.now))) (subst (λ rs. All (λ l. length l ≡ length c.args.nodes.now) (map (λ r. r.now) rs)) c.deref.ensures.value c.if-not-are_of_size.ensures))
    (subst (λ rs. HasStranger (row_content (contents_of (map (λ n. n.now) c.args.nodes.now)) 0) (fields_shape (map shape_of (map (λ n. n.now) c.args.nodes.now))) (map (λ r. r.now) rs)) c.deref-2.ensures.value stranger))) c.write_fields.ensures.refused

pub write_choices-loop-i-preserved : goal.write_choices-loop-i-preserved
write_choices-loop-i-preserved t c =
    let before = payloads_under (map (λ n. n.now) (take c.loop-i.i c.args.nodes.now)) in
    let count : 0 + length before ≡ c.loop-i.i = let same = payloads_count (λ n. n.now) c.args.nodes.now c.loop-i.i (omega (arith, c.loop-i-test.true)) in omega (arith, same) in
    let w = subst (λ ps. Writes (content_under c.index-nodes-i.result.now) (shape_of c.index-nodes-i.result.now) (map (λ v. v.now) ps) c.loop-i.out.items c.write_each.new.out.items) c.deref-in-loop-i.ensures.value c.in_ok-write_each.ensures.written in
    let mapped = writes_mapped (content_under c.index-nodes-i.result.now) payload_in (shape_of c.index-nodes-i.result.now) (of_variant variant_in c.loop-i.i (map (λ h. (h.0, h.1.now)) c.args.held.now)) (map (λ v. v.now) c.in_ok-parts.parts.items) c.in_ok-parts.ensures.held c.loop-i.out.items c.write_each.new.out.items w in
    subst (λ ps. WritesPayloads variant_in ps 0 (map (λ h. (h.0, h.1.now)) c.args.held.now) c.write_variants.new.out.items c.write_each.new.out.items) (sym (payloads_more (λ n. n.now) c.args.nodes.now c.loop-i.i c.index-nodes-i.result c.loop-i-test.true c.index-nodes-i.is))
    (one_more variant_in before 0 (payload_under c.index-nodes-i.result.now) (map (λ h. (h.0, h.1.now)) c.args.held.now) c.write_variants.new.out.items c.loop-i.out.items c.write_each.new.out.items c.loop-i.invariant
    (subst (λ n. Writes (λ e. (content_under c.index-nodes-i.result.now) (payload_in e)) (shape_of c.index-nodes-i.result.now) (of_variant variant_in n (map (λ h. (h.0, h.1.now)) c.args.held.now)) c.loop-i.out.items c.write_each.new.out.items) (sym count) mapped))

pub write_choices-returns-clause-written : goal.write_choices-returns-clause-written
write_choices-returns-clause-written t c =
    let count : length (payloads_under (map (λ n. n.now) c.args.nodes.now)) ≡ length c.args.nodes.now = (length-map (map (λ n. n.now) c.args.nodes.now) payload_under ∙ length-map c.args.nodes.now (λ n. n.now)) in
    let at_end : c.loop-i.i ≡ length c.args.nodes.now = omega (arith, c.loop-i-test.false, c.loop-i.auto.i-end) in
    let whole = ap (λ n. payloads_under (map (λ n. n.now) (take n c.args.nodes.now))) at_end ∙ ap (λ ns. payloads_under (map (λ n. n.now) ns)) (take-length c.args.nodes.now) in
    let variants = c.in_ok-write_variants.ensures.written ∙ ap (λ vs. c.args.out.now.items ++ variant_text (length c.args.nodes.now) vs) (c.deref.ensures.value ∙ c.in_ok-variants.ensures.variants)
    ∙ ap (λ n. c.args.out.now.items ++ variant_text n (map variant_in (map (λ h. (h.0, h.1.now)) c.args.held.now))) (sym count) in
    writes_choices variant_in (payloads_under (map (λ n. n.now) c.args.nodes.now)) (map (λ h. (h.0, h.1.now)) c.args.held.now) c.args.out.now.items c.write_variants.new.out.items c.loop-i.out.items
    (subst (λ n. All (λ e. variant_in e < n) (map (λ h. (h.0, h.1.now)) c.args.held.now)) (sym count) c.in_ok-variants.ensures.below) variants
    (subst (λ ps. WritesPayloads variant_in ps 0 (map (λ h. (h.0, h.1.now)) c.args.held.now) c.write_variants.new.out.items c.loop-i.out.items) whole c.loop-i.invariant)

pub write_choices-returns-in_err-variants-clause-refused : goal.write_choices-returns-in_err-variants-clause-refused
write_choices-returns-in_err-variants-clause-refused t c =
    let p = err_from_is_err_and c.from_residual.result c.from_residual.ensures.1 in
    rw (p.1, p.2) (refusal_as _ (λ other. stranger_variant variant_in (payloads_under (map (λ n. n.now) c.args.nodes.now)) (map (λ h. (h.0, h.1.now)) c.args.held.now) (subst (λ n. All (λ e. variant_in e < n) (map (λ h. (h.0, h.1.now)) c.args.held.now) → ⊥) (sym (length-map (map (λ n. n.now) c.args.nodes.now) payload_under ∙ length-map c.args.nodes.now (λ n. n.now))) other)) c.in_err-variants.ensures.refused)

pub write_choices-returns-in_err-write_each-clause-refused : goal.write_choices-returns-in_err-write_each-clause-refused
write_choices-returns-in_err-write_each-clause-refused t c =
    let p = err_from_is_err_and c.from_residual-in_err-write_each.result c.from_residual-in_err-write_each.ensures.1 in
    rw (p.1, p.2) (refusal_as _ (λ stranger. stranger_of_variant variant_in (payloads_under (map (λ n. n.now) c.args.nodes.now)) (map (λ h. (h.0, h.1.now)) c.args.held.now) c.loop-i.i (payload_under c.index-nodes-i.result.now) (payload_of_node (λ n. n.now) c.args.nodes.now c.loop-i.i c.index-nodes-i.result c.loop-i-test.true c.index-nodes-i.is) (stranger_mapped (content_under c.index-nodes-i.result.now) payload_in (shape_of c.index-nodes-i.result.now) (of_variant variant_in c.loop-i.i (map (λ h. (h.0, h.1.now)) c.args.held.now)) (map (λ v. v.now) c.in_ok-parts.parts.items) c.in_ok-parts.ensures.held (subst (λ ps. HasStranger (content_under c.index-nodes-i.result.now) (shape_of c.index-nodes-i.result.now) (map (λ v. v.now) ps)) c.deref-in-loop-i.ensures.value stranger))) c.in_err-write_each.ensures.refused)

pub write_choices-write_each-requires : goal.write_choices-write_each-requires
write_choices-write_each-requires t c =
    let deep = depth_at (λ n. n.now) c.args.nodes.now c.loop-i.i c.index-nodes-i.result c.loop-i-test.true c.index-nodes-i.is in
    let few = subst (λ n. has_few_variants n ≡ true) (one_of (λ n. n.now) c.args.nodes.now c.loop-i.i c.index-nodes-i.result c.loop-i-test.true c.index-nodes-i.is) (c.requires.few c.loop-i.i c.index-nodes-i.result.now (omega (arith, c.loop-i-test.true, length-map c.args.nodes.now (λ n. n.now)))) in
    (omega (arith, c.decreases, deep), few)

pub write_choices-write_variants-requires-clause-below : goal.write_choices-write_variants-requires-clause-below
write_choices-write_variants-requires-clause-below t c =
    let each = All-map (λ v. v < length c.args.nodes.now) variant_in (map (λ h. (h.0, h.1.now)) c.args.held.now) c.in_ok-variants.ensures.below in
    subst (All (λ v. v < length c.args.nodes.now)) (sym (c.deref.ensures.value ∙ c.in_ok-variants.ensures.variants)) each

pub write_options-returns-in_err-held-clause-refused : goal.write_options-returns-in_err-held-clause-refused
write_options-returns-in_err-held-clause-refused t c =
    let p = err_from_is_err_and c.from_residual.result c.from_residual.ensures.1 in
    rw (p.1, p.2) (refusal_as _ (stranger_other option_of (option_content (content_under c.args.some.now)) (choice_shape (shape_and unit_shape (shape_and (shape_of c.args.some.now) no_shapes))) (map (λ v. v.now) c.args.values.now)) c.in_err-held.ensures.refused)

pub write_options-returns-clause-written : goal.write_options-returns-clause-written
write_options-returns-clause-written t c =
    let variants = c.in_ok-write_variants.ensures.written ∙ ap (λ vs. c.args.out.now.items ++ variant_text 2 vs) (c.deref-2.ensures.value ∙ c.in_ok-variants.ensures.variants
    ∙ ap (λ hs. map option_variant (map (λ h. boxed h.now) hs)) c.deref.ensures.value) in
    on_ok_weaker c.write_each.result
    (λ w. whole_options (content_under c.args.some.now) (shape_of c.args.some.now) (map (λ v. v.now) c.args.values.now) (map (λ h. boxed h.now) c.in_ok-held.held.items) c.in_ok-held.ensures.held (map (λ v. v.now) c.in_ok-parts.parts.items) (ap (λ hs. of_variant option_variant 1 (map (λ h. boxed h.now) hs)) (sym c.deref-3.ensures.value) ∙ c.in_ok-parts.ensures.held ∙ sym (map-map (λ v. Some v) (λ v. v.now) c.in_ok-parts.parts.items))
    c.args.out.now.items c.write_variants.new.out.items c.write_each.new.out.items variants
    (subst (λ ps. Writes (content_under c.args.some.now) (shape_of c.args.some.now) (map (λ v. v.now) ps) c.write_variants.new.out.items c.write_each.new.out.items) c.deref-4.ensures.value w)) c.write_each.ensures.written

pub write_options-returns-clause-refused : goal.write_options-returns-clause-refused
write_options-returns-clause-refused t c =
    IfErr-weaker c.write_each.result _ _
    (λ e. refusal_as e.reason
    (λ stranger. stranger_option (content_under c.args.some.now) (shape_of c.args.some.now) (map (λ v. v.now) c.args.values.now) (map (λ h. boxed h.now) c.in_ok-held.held.items) c.in_ok-held.ensures.held (map (λ v. v.now) c.in_ok-parts.parts.items) (ap (λ hs. of_variant option_variant 1 (map (λ h. boxed h.now) hs)) (sym c.deref-3.ensures.value) ∙ c.in_ok-parts.ensures.held ∙ sym (map-map (λ v. Some v) (λ v. v.now) c.in_ok-parts.parts.items))
    (subst (λ ps. HasStranger (content_under c.args.some.now) (shape_of c.args.some.now) (map (λ v. v.now) ps)) c.deref-4.ensures.value stranger))) c.write_each.ensures.refused

pub write_options-write_variants-requires-clause-below : goal.write_options-write_variants-requires-clause-below
write_options-write_variants-requires-clause-below t c =
    let os = map (λ h. boxed h.now) c.deref.result.now in
    subst (All (λ v. v < 2)) (sym (c.deref-2.ensures.value ∙ c.in_ok-variants.ensures.variants)) (options_below os)

pub write_single-returns-in_err-_variants-clause-refused : goal.write_single-returns-in_err-_variants-clause-refused
write_single-returns-in_err-_variants-clause-refused t c =
    let p = err_from_is_err_and c.from_residual.result c.from_residual.ensures.1 in
    rw (p.1, p.2) (refusal_as _ (stranger_single (content_under c.args.node.now) (shape_of c.args.node.now) (map (λ h. (h.0, h.1.now)) c.args.held.now)) c.in_err-_variants.ensures.refused)

pub write_single-returns-clause-written : goal.write_single-returns-clause-written
write_single-returns-clause-written t c =
    on_ok_weaker c.write_each.result
    (λ w. writes_single (content_under c.args.node.now) (shape_of c.args.node.now) (map (λ h. (h.0, h.1.now)) c.args.held.now) c.in_ok-_variants.ensures.below (map (λ v. v.now) c.in_ok-parts.parts.items) c.in_ok-parts.ensures.held c.args.out.now.items c.write_each.new.out.items
    (subst (λ ps. Writes (content_under c.args.node.now) (shape_of c.args.node.now) (map (λ v. v.now) ps) c.args.out.now.items c.write_each.new.out.items) c.deref.ensures.value w)) c.write_each.ensures.written

pub write_single-returns-clause-refused : goal.write_single-returns-clause-refused
write_single-returns-clause-refused t c =
    IfErr-weaker c.write_each.result _ _
    (λ e. refusal_as e.reason
    (λ stranger. stranger_of_single (content_under c.args.node.now) (shape_of c.args.node.now) (map (λ h. (h.0, h.1.now)) c.args.held.now) c.in_ok-_variants.ensures.below (map (λ v. v.now) c.in_ok-parts.parts.items) c.in_ok-parts.ensures.held
    (subst (λ ps. HasStranger (content_under c.args.node.now) (shape_of c.args.node.now) (map (λ v. v.now) ps)) c.deref.ensures.value stranger))) c.write_each.ensures.refused

pub write_results-returns-in_err-held-clause-refused : goal.write_results-returns-in_err-held-clause-refused
write_results-returns-in_err-held-clause-refused t c =
    let p = err_from_is_err_and c.from_residual.result c.from_residual.ensures.1 in
    rw (p.1, p.2) (refusal_as _ (stranger_other enum_of (choice_under (content_under c.args.ok.now ∷ content_under c.args.other.now ∷ [])) (choice_shape (shape_and (shape_of c.args.ok.now) (shape_and (shape_of c.args.other.now) no_shapes))) (map (λ v. v.now) c.args.values.now)) c.in_err-held.ensures.refused)

pub write_results-returns-clause-written : goal.write_results-returns-clause-written
write_results-returns-clause-written t c =
    on_ok_weaker c.write_choices.result
    (λ w. writes_seen enum_of (choice_under (content_under c.args.ok.now ∷ content_under c.args.other.now ∷ [])) (choice_shape (shape_and (shape_of c.args.ok.now) (shape_and (shape_of c.args.other.now) no_shapes))) (map (λ v. v.now) c.args.values.now) (map (λ h. (h.0, h.1.now)) c.in_ok-held.held.items) c.in_ok-held.ensures.held c.args.out.now.items c.write_choices.new.out.items
    (writes_as (chosen variant_in (payloads_under (c.args.ok.now ∷ c.args.other.now ∷ []))) (choice_under (content_under c.args.ok.now ∷ content_under c.args.other.now ∷ [])) (chosen_node (c.args.ok.now ∷ c.args.other.now ∷ [])) (choice_shape (shapes_from (payloads_under (c.args.ok.now ∷ c.args.other.now ∷ [])))) (choice_shape (shape_and (shape_of c.args.ok.now) (shape_and (shape_of c.args.other.now) no_shapes)))
    (ap choice_shape (node_shapes (c.args.ok.now ∷ c.args.other.now ∷ []))) (map (λ h. (h.0, h.1.now)) c.in_ok-held.held.items) c.args.out.now.items c.write_choices.new.out.items
    (subst (λ hs. Writes (chosen variant_in (payloads_under (c.args.ok.now ∷ c.args.other.now ∷ []))) (choice_shape (shapes_from (payloads_under (c.args.ok.now ∷ c.args.other.now ∷ [])))) (map (λ h. (h.0, h.1.now)) hs)
    c.args.out.now.items c.write_choices.new.out.items) c.deref.ensures.value w))) c.write_choices.ensures.written

pub write_results-returns-clause-refused : goal.write_results-returns-clause-refused
write_results-returns-clause-refused t c =
    IfErr-weaker c.write_choices.result _ _
    (λ e. refusal_as e.reason
    (λ stranger. stranger_seen enum_of (choice_under (content_under c.args.ok.now ∷ content_under c.args.other.now ∷ [])) (choice_shape (shape_and (shape_of c.args.ok.now) (shape_and (shape_of c.args.other.now) no_shapes))) (map (λ v. v.now) c.args.values.now) (map (λ h. (h.0, h.1.now)) c.in_ok-held.held.items) c.in_ok-held.ensures.held
    (stranger_as (chosen variant_in (payloads_under (c.args.ok.now ∷ c.args.other.now ∷ []))) (choice_under (content_under c.args.ok.now ∷ content_under c.args.other.now ∷ [])) (chosen_node (c.args.ok.now ∷ c.args.other.now ∷ [])) (choice_shape (shapes_from (payloads_under (c.args.ok.now ∷ c.args.other.now ∷ [])))) (choice_shape (shape_and (shape_of c.args.ok.now) (shape_and (shape_of c.args.other.now) no_shapes)))
    (ap choice_shape (node_shapes (c.args.ok.now ∷ c.args.other.now ∷ []))) (map (λ h. (h.0, h.1.now)) c.in_ok-held.held.items)
    (subst (λ hs. HasStranger (chosen variant_in (payloads_under (c.args.ok.now ∷ c.args.other.now ∷ []))) (choice_shape (shapes_from (payloads_under (c.args.ok.now ∷ c.args.other.now ∷ [])))) (map (λ h. (h.0, h.1.now)) hs))
    c.deref.ensures.value stranger)))) c.write_choices.ensures.refused

pub write_enums-returns-in_err-held-clause-refused : goal.write_enums-returns-in_err-held-clause-refused
write_enums-returns-in_err-held-clause-refused t c =
    let p = err_from_is_err_and c.from_residual.result c.from_residual.ensures.1 in
    rw (p.1, p.2) (refusal_as _ (stranger_other enum_of (enum_under (contents_of (map (λ n. n.now) c.args.nodes.now))) (enum_shape (map shape_of (map (λ n. n.now) c.args.nodes.now))) (map (λ v. v.now) c.args.values.now)) c.in_err-held.ensures.refused)

pub write_enums-returns-then-is_empty-clause-refused : goal.write_enums-returns-then-is_empty-clause-refused
write_enums-returns-then-is_empty-clause-refused t c =
    let none : c.args.nodes.now ≡ [] = nil_from_length c.args.nodes.now (eqb-true (length c.args.nodes.now) 0 (sym c.if-is_empty.ensures)) in
    rw none (c.write_never.ensures.refused (λ v. under (enum_of v) (enum_under [])))

pub write_enums-returns-then-nodes-eq1-clause-written : goal.write_enums-returns-then-nodes-eq1-clause-written
write_enums-returns-then-nodes-eq1-clause-written t c =
    let one = only_one c.args.nodes.now c.index-nodes-0.result (omega (arith, c.if-nodes-eq1.true)) (omega (arith, c.if-nodes-eq1.true)) c.index-nodes-0.is in
    rw one
    (on_ok_weaker c.write_single.result
    (λ w. writes_seen enum_of (enum_under ((content_under c.index-nodes-0.result.now) ∷ [])) (shape_of c.index-nodes-0.result.now) (map (λ v. v.now) c.args.values.now) (map (λ h. (h.0, h.1.now)) c.in_ok-held.held.items) c.in_ok-held.ensures.held c.args.out.now.items c.write_single.new.out.items
    (subst (λ hs. Writes (enum_under ((content_under c.index-nodes-0.result.now) ∷ [])) (shape_of c.index-nodes-0.result.now) (map (λ h. (h.0, h.1.now)) hs) c.args.out.now.items c.write_single.new.out.items) c.deref.ensures.value w))
    c.write_single.ensures.written)

pub write_enums-returns-then-nodes-eq1-clause-refused : goal.write_enums-returns-then-nodes-eq1-clause-refused
write_enums-returns-then-nodes-eq1-clause-refused t c =
    let one = only_one c.args.nodes.now c.index-nodes-0.result (omega (arith, c.if-nodes-eq1.true)) (omega (arith, c.if-nodes-eq1.true)) c.index-nodes-0.is in
    rw one
    (IfErr-weaker c.write_single.result _ _
    (λ e. refusal_as e.reason
    (λ stranger. stranger_seen enum_of (enum_under ((content_under c.index-nodes-0.result.now) ∷ [])) (shape_of c.index-nodes-0.result.now) (map (λ v. v.now) c.args.values.now) (map (λ h. (h.0, h.1.now)) c.in_ok-held.held.items) c.in_ok-held.ensures.held
    (subst (λ hs. HasStranger (enum_under ((content_under c.index-nodes-0.result.now) ∷ [])) (shape_of c.index-nodes-0.result.now) (map (λ h. (h.0, h.1.now)) hs)) c.deref.ensures.value stranger))) c.write_single.ensures.refused)

pub write_enums-write_single-requires : goal.write_enums-write_single-requires
write_enums-write_single-requires t c =
    let one = only_one c.args.nodes.now c.index-nodes-0.result (omega (arith, c.if-nodes-eq1.true)) (omega (arith, c.if-nodes-eq1.true)) c.index-nodes-0.is in
    let few = All-head (λ n. has_few_variants n ≡ true) c.index-nodes-0.result.now [] (subst (λ ns. All (λ n. has_few_variants n ≡ true) (map (λ n. n.now) ns)) one c.requires.few) in
    let deep : greatest (map depth (map (λ n. n.now) c.args.nodes.now)) ≡ max (depth c.index-nodes-0.result.now) 0 = ap (λ ns. greatest (map depth (map (λ n. n.now) ns))) one in
    (grind (arith, c.decreases, deep), few)

pub write_enums-returns-clause-written : goal.write_enums-returns-clause-written
write_enums-returns-clause-written t c =
    let most : 2 ≤ length (map (λ n. n.now) c.args.nodes.now) = (omega (arith, length-map c.args.nodes.now (λ n. n.now), c.if-nodes-eq1.false, eqb-false (length c.args.nodes.now) 0 (sym c.if-is_empty.ensures))) in
    on_ok_weaker c.write_choices.result
    (λ w. writes_seen enum_of (enum_under (contents_of (map (λ n. n.now) c.args.nodes.now))) (enum_shape (map shape_of (map (λ n. n.now) c.args.nodes.now))) (map (λ v. v.now) c.args.values.now) (map (λ h. (h.0, h.1.now)) c.in_ok-held.held.items) c.in_ok-held.ensures.held c.args.out.now.items c.write_choices.new.out.items
    (writes_as (chosen variant_in (payloads_under (map (λ n. n.now) c.args.nodes.now))) (enum_under (contents_of (map (λ n. n.now) c.args.nodes.now))) (λ e. chosen_node (map (λ n. n.now) c.args.nodes.now) e ∙ several (map (λ n. n.now) c.args.nodes.now) most e) (choice_shape (shapes_from (payloads_under (map (λ n. n.now) c.args.nodes.now)))) (enum_shape (map shape_of (map (λ n. n.now) c.args.nodes.now))) (ap choice_shape (node_shapes (map (λ n. n.now) c.args.nodes.now)) ∙ several_shape (map (λ n. n.now) c.args.nodes.now) most) (map (λ h. (h.0, h.1.now)) c.in_ok-held.held.items) c.args.out.now.items c.write_choices.new.out.items
    (subst (λ hs. Writes (chosen variant_in (payloads_under (map (λ n. n.now) c.args.nodes.now))) (choice_shape (shapes_from (payloads_under (map (λ n. n.now) c.args.nodes.now)))) (map (λ h. (h.0, h.1.now)) hs)
    c.args.out.now.items c.write_choices.new.out.items) c.deref-2.ensures.value w))) c.write_choices.ensures.written

pub write_enums-returns-clause-refused : goal.write_enums-returns-clause-refused
write_enums-returns-clause-refused t c =
    let most : 2 ≤ length (map (λ n. n.now) c.args.nodes.now) = (omega (arith, length-map c.args.nodes.now (λ n. n.now), c.if-nodes-eq1.false, eqb-false (length c.args.nodes.now) 0 (sym c.if-is_empty.ensures))) in
    IfErr-weaker c.write_choices.result _ _
    (λ e. refusal_as e.reason
    (λ stranger. stranger_seen enum_of (enum_under (contents_of (map (λ n. n.now) c.args.nodes.now))) (enum_shape (map shape_of (map (λ n. n.now) c.args.nodes.now))) (map (λ v. v.now) c.args.values.now) (map (λ h. (h.0, h.1.now)) c.in_ok-held.held.items) c.in_ok-held.ensures.held
    (stranger_as (chosen variant_in (payloads_under (map (λ n. n.now) c.args.nodes.now))) (enum_under (contents_of (map (λ n. n.now) c.args.nodes.now))) (λ e. chosen_node (map (λ n. n.now) c.args.nodes.now) e ∙ several (map (λ n. n.now) c.args.nodes.now) most e) (choice_shape (shapes_from (payloads_under (map (λ n. n.now) c.args.nodes.now)))) (enum_shape (map shape_of (map (λ n. n.now) c.args.nodes.now))) (ap choice_shape (node_shapes (map (λ n. n.now) c.args.nodes.now)) ∙ several_shape (map (λ n. n.now) c.args.nodes.now) most) (map (λ h. (h.0, h.1.now)) c.in_ok-held.held.items)
    (subst (λ hs. HasStranger (chosen variant_in (payloads_under (map (λ n. n.now) c.args.nodes.now))) (choice_shape (shapes_from (payloads_under (map (λ n. n.now) c.args.nodes.now)))) (map (λ h. (h.0, h.1.now)) hs))
    c.deref-2.ensures.value stranger)))) c.write_choices.ensures.refused

pub write_each-returns-in-Bool-clause-refused : goal.write_each-returns-in-Bool-clause-refused
write_each-returns-in-Bool-clause-refused t c =
    rw c.in-Bool.is
    (IfErr-weaker c.write_leaf.result _ _
    (λ e. refusal_as e.reason
    (λ w. stranger_as (leaf_content (Some (leaf_of bools))) (content_under node.Bool) (λ v. sym (content-Bool v)) (bool_shape) (shape_of node.Bool) (sym (shape-Bool)) (map (λ v. v.now) c.args.values.now)
    w)) c.write_leaf.ensures.refused)

pub write_each-returns-in-Char-clause-refused : goal.write_each-returns-in-Char-clause-refused
write_each-returns-in-Char-clause-refused t c =
    rw c.in-Char.is
    (IfErr-weaker c.write_leaf-in-Char.result _ _
    (λ e. refusal_as e.reason
    (λ w. stranger_as (leaf_content (Some char_leaf)) (content_under node.Char) (λ v. sym (content-Char v)) (char_shape) (shape_of node.Char) (sym (shape-Char)) (map (λ v. v.now) c.args.values.now)
    w)) c.write_leaf-in-Char.ensures.refused)

pub write_each-returns-in-Duration-clause-refused : goal.write_each-returns-in-Duration-clause-refused
write_each-returns-in-Duration-clause-refused t c =
    rw c.in-Duration.is
    (IfErr-weaker c.write_spans.result _ _
    (λ e. refusal_as e.reason
    (λ w. stranger_as (λ v. under (fields_of v) (fields_content span_contents)) (content_under node.Duration) (λ v. sym (content-Duration v)) (pair_shape (int_shape 8 false) nanosecond_shape) (shape_of node.Duration) (sym (shape-Duration)) (map (λ v. v.now) c.args.values.now)
    w)) c.write_spans.ensures.refused)

pub write_each-returns-in-F32-clause-refused : goal.write_each-returns-in-F32-clause-refused
write_each-returns-in-F32-clause-refused t c =
    rw c.in-F32.is
    (IfErr-weaker c.write_leaf-in-F32.result _ _
    (λ e. refusal_as e.reason
    (λ w. stranger_as (leaf_content (Some (leaf_of (floats binary32)))) (content_under node.F32) (λ v. sym (content-F32 v)) (float_shape binary32) (shape_of node.F32) (sym (shape-F32)) (map (λ v. v.now) c.args.values.now)
    w)) c.write_leaf-in-F32.ensures.refused)

pub write_each-returns-in-F64-clause-refused : goal.write_each-returns-in-F64-clause-refused
write_each-returns-in-F64-clause-refused t c =
    rw c.in-F64.is
    (IfErr-weaker c.write_leaf-in-F64.result _ _
    (λ e. refusal_as e.reason
    (λ w. stranger_as (leaf_content (Some (leaf_of (floats binary64)))) (content_under node.F64) (λ v. sym (content-F64 v)) (float_shape binary64) (shape_of node.F64) (sym (shape-F64)) (map (λ v. v.now) c.args.values.now)
    w)) c.write_leaf-in-F64.ensures.refused)

pub write_each-returns-in-Int-clause-refused : goal.write_each-returns-in-Int-clause-refused
write_each-returns-in-Int-clause-refused t c =
    rw c.in-Int.is
    (IfErr-weaker c.write_ints.result _ _
    (λ e. refusal_as e.reason
    (λ w. stranger_as (leaf_content (Some (int_leaf c.in-Int.kind))) (content_under (node.Int c.in-Int.kind)) (λ v. sym (content-Int c.in-Int.kind v)) (int_shape (width_of c.in-Int.kind) (is_signed c.in-Int.kind)) (shape_of (node.Int c.in-Int.kind)) (sym (shape-Int c.in-Int.kind)) (map (λ v. v.now) c.args.values.now)
    w)) c.write_ints.ensures.refused)

pub write_each-returns-in-NonZero-clause-refused : goal.write_each-returns-in-NonZero-clause-refused
write_each-returns-in-NonZero-clause-refused t c =
    rw c.in-NonZero.is
    (IfErr-weaker c.write_nonzeros.result _ _
    (λ e. refusal_as e.reason
    (λ w. stranger_as (leaf_content (Some (int_leaf c.in-NonZero.kind))) (content_under (node.NonZero c.in-NonZero.kind)) (λ v. sym (content-NonZero c.in-NonZero.kind v)) (nonzero_shape (width_of c.in-NonZero.kind) (is_signed c.in-NonZero.kind)) (shape_of (node.NonZero c.in-NonZero.kind)) (sym (shape-NonZero c.in-NonZero.kind)) (map (λ v. v.now) c.args.values.now)
    w)) c.write_nonzeros.ensures.refused)

pub write_each-returns-in-Str-clause-refused : goal.write_each-returns-in-Str-clause-refused
write_each-returns-in-Str-clause-refused t c =
    rw c.in-Str.is
    (IfErr-weaker c.write_texts.result _ _
    (λ e. refusal_as e.reason
    (λ w. stranger_as (leaf_content (Some (leaf_of (texts None)))) (content_under (node.Str c.in-Str.capacity)) (λ v. sym (content-Str c.in-Str.capacity v)) (text_shape c.in-Str.capacity) (shape_of (node.Str c.in-Str.capacity)) (sym (shape-Str c.in-Str.capacity)) (map (λ v. v.now) c.args.values.now)
    w)) c.write_texts.ensures.refused)

pub write_each-returns-in-Unit-clause-refused : goal.write_each-returns-in-Unit-clause-refused
write_each-returns-in-Unit-clause-refused t c =
    rw c.in-Unit.is
    (IfErr-weaker c.write_units.result _ _
    (λ e. refusal_as e.reason
    (λ w. stranger_as (λ v. unit_content (out-Value v)) (content_under node.Unit) (λ v. sym (content-Unit v)) (unit_shape) (shape_of node.Unit) (sym (shape-Unit)) (map (λ v. v.now) c.args.values.now)
    w)) c.write_units.ensures.refused)

pub write_each-returns-in-Uuid-clause-refused : goal.write_each-returns-in-Uuid-clause-refused
write_each-returns-in-Uuid-clause-refused t c =
    rw c.in-Uuid.is
    (IfErr-weaker c.write_ids.result _ _
    (λ e. refusal_as e.reason
    (λ w. stranger_as (λ v. under (elements_of v) (list_content (leaf_content (Some (int_leaf int.U8))))) (content_under node.Uuid) (λ v. sym (content-Uuid v)) (array_shape 16 (int_shape 1 false)) (shape_of node.Uuid) (sym (shape-Uuid)) (map (λ v. v.now) c.args.values.now)
    w)) c.write_ids.ensures.refused)

pub write_each-returns-in-Never-clause-refused : goal.write_each-returns-in-Never-clause-refused
write_each-returns-in-Never-clause-refused t c =
    rw (c.in-Never.is, shape-Never) (c.write_never.ensures.refused (content_under node.Never))

pub write_each-returns-in-List-clause-written : goal.write_each-returns-in-List-clause-written
write_each-returns-in-List-clause-written t c =
    rw c.in-List.is
    (on_ok_weaker c.write_lists.result
    (λ w. writes_as (λ v. under (elements_of v) (list_content (content_under c.in-List.element.value))) (content_under (node.List c.in-List.capacity c.in-List.element)) (λ v. sym (content-List c.in-List.capacity c.in-List.element v)) (seq_shape c.in-List.capacity (shape_of c.in-List.element.value)) (shape_of (node.List c.in-List.capacity c.in-List.element)) (sym (shape-List c.in-List.capacity c.in-List.element)) (map (λ v. v.now) c.args.values.now) c.args.out.now.items c.write_lists.new.out.items
    (subst (λ m. Writes (λ v. under (elements_of v) (list_content (content_under m))) (seq_shape c.in-List.capacity (shape_of m)) (map (λ v. v.now) c.args.values.now) c.args.out.now.items c.write_lists.new.out.items) c.deref.ensures w)) c.write_lists.ensures.written)

pub write_each-returns-in-Map-clause-written : goal.write_each-returns-in-Map-clause-written
write_each-returns-in-Map-clause-written t c =
    rw c.in-Map.is
    (on_ok_weaker c.write_maps.result
    (λ w. writes_as (λ v. under (pairs_of v) (list_content (pair_content (content_under c.in-Map.key.value) (content_under c.in-Map.value.value)))) (content_under (node.Map c.in-Map.key c.in-Map.value)) (λ v. sym (content-Map c.in-Map.key c.in-Map.value v)) (map_shape (shape_of c.in-Map.key.value) (shape_of c.in-Map.value.value)) (shape_of (node.Map c.in-Map.key c.in-Map.value)) (sym (shape-Map c.in-Map.key c.in-Map.value)) (map (λ v. v.now) c.args.values.now) c.args.out.now.items c.write_maps.new.out.items
    (subst (λ m. Writes (λ v. under (pairs_of v) (list_content (pair_content (content_under c.in-Map.key.value) (content_under m)))) (map_shape (shape_of c.in-Map.key.value) (shape_of m)) (map (λ v. v.now) c.args.values.now) c.args.out.now.items c.write_maps.new.out.items) c.deref-in-Map-2.ensures (subst (λ m. Writes (λ v. under (pairs_of v) (list_content (pair_content (content_under m) (content_under c.deref-in-Map-2.result.now)))) (map_shape (shape_of m) (shape_of c.deref-in-Map-2.result.now)) (map (λ v. v.now) c.args.values.now) c.args.out.now.items c.write_maps.new.out.items) c.deref-in-Map.ensures w))) c.write_maps.ensures.written)

pub write_each-returns-in-Option-clause-written : goal.write_each-returns-in-Option-clause-written
write_each-returns-in-Option-clause-written t c =
    rw c.in-Option.is
    (on_ok_weaker c.write_options.result
    (λ w. writes_as (λ v. under (option_of v) (option_content (content_under c.in-Option.some.value))) (content_under (node.Option c.in-Option.some)) (λ v. sym (content-Option c.in-Option.some v)) (choice_shape (shape_and unit_shape (shape_and (shape_of c.in-Option.some.value) no_shapes))) (shape_of (node.Option c.in-Option.some)) (sym (option_shape c.in-Option.some)) (map (λ v. v.now) c.args.values.now) c.args.out.now.items c.write_options.new.out.items
    (subst (λ m. Writes (λ v. under (option_of v) (option_content (content_under m))) (choice_shape (shape_and unit_shape (shape_and (shape_of m) no_shapes))) (map (λ v. v.now) c.args.values.now) c.args.out.now.items c.write_options.new.out.items) c.deref-in-Option.ensures w)) c.write_options.ensures.written)

pub write_each-returns-in-Result-clause-written : goal.write_each-returns-in-Result-clause-written
write_each-returns-in-Result-clause-written t c =
    rw c.in-Result.is
    (on_ok_weaker c.write_results.result
    (λ w. writes_as (λ v. under (enum_of v) (choice_under (content_under c.in-Result.ok.value ∷ content_under c.in-Result.other.value ∷ []))) (content_under (node.Result c.in-Result.ok c.in-Result.other)) (λ v. sym (content-Result c.in-Result.ok c.in-Result.other v)) (choice_shape (shape_and (shape_of c.in-Result.ok.value) (shape_and (shape_of c.in-Result.other.value) no_shapes))) (shape_of (node.Result c.in-Result.ok c.in-Result.other)) (sym (result_shape c.in-Result.ok c.in-Result.other)) (map (λ v. v.now) c.args.values.now) c.args.out.now.items c.write_results.new.out.items
    (subst (λ m. Writes (λ v. under (enum_of v) (choice_under (content_under c.in-Result.ok.value ∷ content_under m ∷ []))) (choice_shape (shape_and (shape_of c.in-Result.ok.value) (shape_and (shape_of m) no_shapes))) (map (λ v. v.now) c.args.values.now) c.args.out.now.items c.write_results.new.out.items) c.deref-in-Result-2.ensures (subst (λ m. Writes (λ v. under (enum_of v) (choice_under (content_under m ∷ content_under c.deref-in-Result-2.result.now ∷ []))) (choice_shape (shape_and (shape_of m) (shape_and (shape_of c.deref-in-Result-2.result.now) no_shapes))) (map (λ v. v.now) c.args.values.now) c.args.out.now.items c.write_results.new.out.items) c.deref-in-Result.ensures w))) c.write_results.ensures.written)

pub write_each-returns-in_ok-each_node-in-Tuple-clause-written : goal.write_each-returns-in_ok-each_node-in-Tuple-clause-written
write_each-returns-in_ok-each_node-in-Tuple-clause-written t c =
    rw c.in-Tuple.is
    (on_ok_weaker c.write_rows.result
    (λ w. writes_as (λ v. under (fields_of v) (fields_content (contents_of c.in-Tuple.nodes.items))) (content_under (node.Tuple c.in-Tuple.nodes)) (λ v. sym (content-Tuple c.in-Tuple.nodes v)) (fields_shape (map shape_of c.in-Tuple.nodes.items)) (shape_of (node.Tuple c.in-Tuple.nodes)) (sym (tuple_shape c.in-Tuple.nodes)) (map (λ v. v.now) c.args.values.now) c.args.out.now.items c.write_rows.new.out.items
    (subst (λ m. Writes (λ v. under (fields_of v) (fields_content (contents_of m))) (fields_shape (map shape_of m)) (map (λ v. v.now) c.args.values.now) c.args.out.now.items c.write_rows.new.out.items) (ap (map (λ n. n.now)) c.deref-in-Tuple-2.ensures.value ∙ c.in_ok-each_node-in-Tuple.ensures.same ∙ c.deref-in-Tuple.ensures.value) w)) c.write_rows.ensures.written)

pub write_each-returns-in_ok-named_nodes-in-Struct-clause-written : goal.write_each-returns-in_ok-named_nodes-in-Struct-clause-written
write_each-returns-in_ok-named_nodes-in-Struct-clause-written t c =
    rw c.in-Struct.is
    (on_ok_weaker c.write_rows-in-Struct.result
    (λ w. writes_as (λ v. under (fields_of v) (fields_content (contents_of (parts_of c.in-Struct.named.items)))) (content_under (node.Struct c.in-Struct.named)) (λ v. sym (content-Struct c.in-Struct.named v)) (fields_shape (map shape_of (parts_of c.in-Struct.named.items))) (shape_of (node.Struct c.in-Struct.named)) (sym (struct_shape c.in-Struct.named)) (map (λ v. v.now) c.args.values.now) c.args.out.now.items c.write_rows-in-Struct.new.out.items
    (subst (λ m. Writes (λ v. under (fields_of v) (fields_content (contents_of m))) (fields_shape (map shape_of m)) (map (λ v. v.now) c.args.values.now) c.args.out.now.items c.write_rows-in-Struct.new.out.items) (ap (map (λ n. n.now)) c.deref-in-Struct-2.ensures.value ∙ c.in_ok-named_nodes-in-Struct.ensures.same ∙ ap parts_of c.deref-in-Struct.ensures.value) w)) c.write_rows-in-Struct.ensures.written)

pub write_each-returns-in_ok-named_nodes-in-Enum-clause-written : goal.write_each-returns-in_ok-named_nodes-in-Enum-clause-written
write_each-returns-in_ok-named_nodes-in-Enum-clause-written t c =
    rw c.in-Enum.is
    (on_ok_weaker c.write_enums.result
    (λ w. writes_as (λ v. under (enum_of v) (enum_under (contents_of (parts_of c.in-Enum.named.items)))) (content_under (node.Enum c.in-Enum.named)) (λ v. sym (content-Enum c.in-Enum.named v)) (enum_shape (map shape_of (parts_of c.in-Enum.named.items))) (shape_of (node.Enum c.in-Enum.named)) (sym (enum_node_shape c.in-Enum.named)) (map (λ v. v.now) c.args.values.now) c.args.out.now.items c.write_enums.new.out.items
    (subst (λ m. Writes (λ v. under (enum_of v) (enum_under (contents_of m))) (enum_shape (map shape_of m)) (map (λ v. v.now) c.args.values.now) c.args.out.now.items c.write_enums.new.out.items) (ap (map (λ n. n.now)) c.deref-in-Enum-2.ensures.value ∙ c.in_ok-named_nodes-in-Enum.ensures.same ∙ ap parts_of c.deref-in-Enum.ensures.value) w)) c.write_enums.ensures.written)

pub write_each-returns-in-List-clause-refused : goal.write_each-returns-in-List-clause-refused
write_each-returns-in-List-clause-refused t c =
    rw c.in-List.is
    (IfErr-weaker c.write_lists.result _ _
    (λ e. refusal_as e.reason
    (λ w. stranger_as (λ v. under (elements_of v) (list_content (content_under c.in-List.element.value))) (content_under (node.List c.in-List.capacity c.in-List.element)) (λ v. sym (content-List c.in-List.capacity c.in-List.element v)) (seq_shape c.in-List.capacity (shape_of c.in-List.element.value)) (shape_of (node.List c.in-List.capacity c.in-List.element)) (sym (shape-List c.in-List.capacity c.in-List.element)) (map (λ v. v.now) c.args.values.now)
    (subst (λ m. HasStranger (λ v. under (elements_of v) (list_content (content_under m))) (seq_shape c.in-List.capacity (shape_of m)) (map (λ v. v.now) c.args.values.now)) c.deref.ensures w))) c.write_lists.ensures.refused)

pub write_each-returns-in-Array-clause-refused : goal.write_each-returns-in-Array-clause-refused
write_each-returns-in-Array-clause-refused t c =
    rw c.in-Array.is
    (IfErr-weaker c.write_arrays.result _ _
    (λ e. refusal_as e.reason
    (λ w. stranger_as (λ v. under (elements_of v) (list_content (content_under c.in-Array.element.value))) (content_under (node.Array c.in-Array.size c.in-Array.element)) (λ v. sym (content-Array c.in-Array.size c.in-Array.element v)) (array_shape c.in-Array.size (shape_of c.in-Array.element.value)) (shape_of (node.Array c.in-Array.size c.in-Array.element)) (sym (shape-Array c.in-Array.size c.in-Array.element)) (map (λ v. v.now) c.args.values.now)
    (subst (λ m. HasStranger (λ v. under (elements_of v) (list_content (content_under m))) (array_shape c.in-Array.size (shape_of m)) (map (λ v. v.now) c.args.values.now)) c.deref-in-Array.ensures w))) c.write_arrays.ensures.refused)

pub write_each-returns-in-Map-clause-refused : goal.write_each-returns-in-Map-clause-refused
write_each-returns-in-Map-clause-refused t c =
    rw c.in-Map.is
    (IfErr-weaker c.write_maps.result _ _
    (λ e. refusal_as e.reason
    (λ w. stranger_as (λ v. under (pairs_of v) (list_content (pair_content (content_under c.in-Map.key.value) (content_under c.in-Map.value.value)))) (content_under (node.Map c.in-Map.key c.in-Map.value)) (λ v. sym (content-Map c.in-Map.key c.in-Map.value v)) (map_shape (shape_of c.in-Map.key.value) (shape_of c.in-Map.value.value)) (shape_of (node.Map c.in-Map.key c.in-Map.value)) (sym (shape-Map c.in-Map.key c.in-Map.value)) (map (λ v. v.now) c.args.values.now)
    (subst (λ m. HasStranger (λ v. under (pairs_of v) (list_content (pair_content (content_under c.in-Map.key.value) (content_under m)))) (map_shape (shape_of c.in-Map.key.value) (shape_of m)) (map (λ v. v.now) c.args.values.now)) c.deref-in-Map-2.ensures (subst (λ m. HasStranger (λ v. under (pairs_of v) (list_content (pair_content (content_under m) (content_under c.deref-in-Map-2.result.now)))) (map_shape (shape_of m) (shape_of c.deref-in-Map-2.result.now)) (map (λ v. v.now) c.args.values.now)) c.deref-in-Map.ensures w)))) c.write_maps.ensures.refused)

pub write_each-returns-in-Option-clause-refused : goal.write_each-returns-in-Option-clause-refused
write_each-returns-in-Option-clause-refused t c =
    rw c.in-Option.is
    (IfErr-weaker c.write_options.result _ _
    (λ e. refusal_as e.reason
    (λ w. stranger_as (λ v. under (option_of v) (option_content (content_under c.in-Option.some.value))) (content_under (node.Option c.in-Option.some)) (λ v. sym (content-Option c.in-Option.some v)) (choice_shape (shape_and unit_shape (shape_and (shape_of c.in-Option.some.value) no_shapes))) (shape_of (node.Option c.in-Option.some)) (sym (option_shape c.in-Option.some)) (map (λ v. v.now) c.args.values.now)
    (subst (λ m. HasStranger (λ v. under (option_of v) (option_content (content_under m))) (choice_shape (shape_and unit_shape (shape_and (shape_of m) no_shapes))) (map (λ v. v.now) c.args.values.now)) c.deref-in-Option.ensures w))) c.write_options.ensures.refused)

pub write_each-returns-in-Result-clause-refused : goal.write_each-returns-in-Result-clause-refused
write_each-returns-in-Result-clause-refused t c =
    rw c.in-Result.is
    (IfErr-weaker c.write_results.result _ _
    (λ e. refusal_as e.reason
    (λ w. stranger_as (λ v. under (enum_of v) (choice_under (content_under c.in-Result.ok.value ∷ content_under c.in-Result.other.value ∷ []))) (content_under (node.Result c.in-Result.ok c.in-Result.other)) (λ v. sym (content-Result c.in-Result.ok c.in-Result.other v)) (choice_shape (shape_and (shape_of c.in-Result.ok.value) (shape_and (shape_of c.in-Result.other.value) no_shapes))) (shape_of (node.Result c.in-Result.ok c.in-Result.other)) (sym (result_shape c.in-Result.ok c.in-Result.other)) (map (λ v. v.now) c.args.values.now)
    (subst (λ m. HasStranger (λ v. under (enum_of v) (choice_under (content_under c.in-Result.ok.value ∷ content_under m ∷ []))) (choice_shape (shape_and (shape_of c.in-Result.ok.value) (shape_and (shape_of m) no_shapes))) (map (λ v. v.now) c.args.values.now)) c.deref-in-Result-2.ensures (subst (λ m. HasStranger (λ v. under (enum_of v) (choice_under (content_under m ∷ content_under c.deref-in-Result-2.result.now ∷ []))) (choice_shape (shape_and (shape_of m) (shape_and (shape_of c.deref-in-Result-2.result.now) no_shapes))) (map (λ v. v.now) c.args.values.now)) c.deref-in-Result.ensures w)))) c.write_results.ensures.refused)

pub write_each-returns-in_ok-each_node-in-Tuple-clause-refused : goal.write_each-returns-in_ok-each_node-in-Tuple-clause-refused
write_each-returns-in_ok-each_node-in-Tuple-clause-refused t c =
    rw c.in-Tuple.is
    (IfErr-weaker c.write_rows.result _ _
    (λ e. refusal_as e.reason
    (λ w. stranger_as (λ v. under (fields_of v) (fields_content (contents_of c.in-Tuple.nodes.items))) (content_under (node.Tuple c.in-Tuple.nodes)) (λ v. sym (content-Tuple c.in-Tuple.nodes v)) (fields_shape (map shape_of c.in-Tuple.nodes.items)) (shape_of (node.Tuple c.in-Tuple.nodes)) (sym (tuple_shape c.in-Tuple.nodes)) (map (λ v. v.now) c.args.values.now)
    (subst (λ m. HasStranger (λ v. under (fields_of v) (fields_content (contents_of m))) (fields_shape (map shape_of m)) (map (λ v. v.now) c.args.values.now)) (ap (map (λ n. n.now)) c.deref-in-Tuple-2.ensures.value ∙ c.in_ok-each_node-in-Tuple.ensures.same ∙ c.deref-in-Tuple.ensures.value) w))) c.write_rows.ensures.refused)

pub write_each-returns-in_ok-named_nodes-in-Struct-clause-refused : goal.write_each-returns-in_ok-named_nodes-in-Struct-clause-refused
write_each-returns-in_ok-named_nodes-in-Struct-clause-refused t c =
    rw c.in-Struct.is
    (IfErr-weaker c.write_rows-in-Struct.result _ _
    (λ e. refusal_as e.reason
    (λ w. stranger_as (λ v. under (fields_of v) (fields_content (contents_of (parts_of c.in-Struct.named.items)))) (content_under (node.Struct c.in-Struct.named)) (λ v. sym (content-Struct c.in-Struct.named v)) (fields_shape (map shape_of (parts_of c.in-Struct.named.items))) (shape_of (node.Struct c.in-Struct.named)) (sym (struct_shape c.in-Struct.named)) (map (λ v. v.now) c.args.values.now)
    (subst (λ m. HasStranger (λ v. under (fields_of v) (fields_content (contents_of m))) (fields_shape (map shape_of m)) (map (λ v. v.now) c.args.values.now)) (ap (map (λ n. n.now)) c.deref-in-Struct-2.ensures.value ∙ c.in_ok-named_nodes-in-Struct.ensures.same ∙ ap parts_of c.deref-in-Struct.ensures.value) w))) c.write_rows-in-Struct.ensures.refused)

pub write_each-returns-in_ok-named_nodes-in-Enum-clause-refused : goal.write_each-returns-in_ok-named_nodes-in-Enum-clause-refused
write_each-returns-in_ok-named_nodes-in-Enum-clause-refused t c =
    rw c.in-Enum.is
    (IfErr-weaker c.write_enums.result _ _
    (λ e. refusal_as e.reason
    (λ w. stranger_as (λ v. under (enum_of v) (enum_under (contents_of (parts_of c.in-Enum.named.items)))) (content_under (node.Enum c.in-Enum.named)) (λ v. sym (content-Enum c.in-Enum.named v)) (enum_shape (map shape_of (parts_of c.in-Enum.named.items))) (shape_of (node.Enum c.in-Enum.named)) (sym (enum_node_shape c.in-Enum.named)) (map (λ v. v.now) c.args.values.now)
    (subst (λ m. HasStranger (λ v. under (enum_of v) (enum_under (contents_of m))) (enum_shape (map shape_of m)) (map (λ v. v.now) c.args.values.now)) (ap (map (λ n. n.now)) c.deref-in-Enum-2.ensures.value ∙ c.in_ok-named_nodes-in-Enum.ensures.same ∙ ap parts_of c.deref-in-Enum.ensures.value) w))) c.write_enums.ensures.refused)

pub write_each-write_rows-requires : goal.write_each-write_rows-requires
write_each-write_rows-requires t c =
    let few = few_nodes c.in-Tuple.nodes.items (sym (few-Tuple c.in-Tuple.nodes) ∙ ap has_few_variants (sym c.in-Tuple.is) ∙ c.requires.few) in
    let deep = ap depth c.in-Tuple.is ∙ depth-Tuple c.in-Tuple.nodes ∙ ap (λ ns. greatest (map depth ns) + 1) (sym (ap (map (λ n. n.now)) c.deref-in-Tuple-2.ensures.value ∙ c.in_ok-each_node-in-Tuple.ensures.same ∙ c.deref-in-Tuple.ensures.value)) in
    (omega (arith, c.decreases, deep), subst (All (λ n. has_few_variants n ≡ true)) (sym (ap (map (λ n. n.now)) c.deref-in-Tuple-2.ensures.value ∙ c.in_ok-each_node-in-Tuple.ensures.same ∙ c.deref-in-Tuple.ensures.value)) few)

pub write_each-write_rows-requires-in-Struct : goal.write_each-write_rows-requires-in-Struct
write_each-write_rows-requires-in-Struct t c =
    let few = few_parts c.in-Struct.named.items (sym (few-Struct c.in-Struct.named) ∙ ap has_few_variants (sym c.in-Struct.is) ∙ c.requires.few) in
    let deep = ap depth c.in-Struct.is ∙ depth-Struct c.in-Struct.named ∙ ap (λ ns. greatest ns + 1) (sym (map-map depth (λ p. p.1) c.in-Struct.named.items))
    ∙ ap (λ ns. greatest (map depth ns) + 1) (sym (ap (map (λ n. n.now)) c.deref-in-Struct-2.ensures.value ∙ c.in_ok-named_nodes-in-Struct.ensures.same ∙ ap parts_of c.deref-in-Struct.ensures.value)) in
    (omega (arith, c.decreases, deep), subst (All (λ n. has_few_variants n ≡ true)) (sym (ap (map (λ n. n.now)) c.deref-in-Struct-2.ensures.value ∙ c.in_ok-named_nodes-in-Struct.ensures.same ∙ ap parts_of c.deref-in-Struct.ensures.value)) few)

pub write_each-write_enums-requires : goal.write_each-write_enums-requires
write_each-write_enums-requires t c =
    let both = and_both _ _ (sym (few-Enum c.in-Enum.named) ∙ ap has_few_variants (sym c.in-Enum.is) ∙ c.requires.few) in
    let few = few_parts c.in-Enum.named.items both.1 in
    let lt = leb-true (length c.in-Enum.named.items) most_variants both.0 in
    let size : length c.deref-in-Enum-2.result.now ≡ length c.in-Enum.named.items = sym (length-map c.deref-in-Enum-2.result.now (λ n. n.now)) ∙ ap length (ap (map (λ n. n.now)) c.deref-in-Enum-2.ensures.value ∙ c.in_ok-named_nodes-in-Enum.ensures.same ∙ ap parts_of c.deref-in-Enum.ensures.value) ∙ length-map c.in-Enum.named.items (λ p. p.1) in
    let deep = ap depth c.in-Enum.is ∙ depth-Enum c.in-Enum.named ∙ ap (λ ns. greatest ns + 1) (sym (map-map depth (λ p. p.1) c.in-Enum.named.items))
    ∙ ap (λ ns. greatest (map depth ns) + 1) (sym (ap (map (λ n. n.now)) c.deref-in-Enum-2.ensures.value ∙ c.in_ok-named_nodes-in-Enum.ensures.same ∙ ap parts_of c.deref-in-Enum.ensures.value)) in
    (omega (arith, c.decreases, deep), (subst (All (λ n. has_few_variants n ≡ true)) (sym (ap (map (λ n. n.now)) c.deref-in-Enum-2.ensures.value ∙ c.in_ok-named_nodes-in-Enum.ensures.same ∙ ap parts_of c.deref-in-Enum.ensures.value)) few, omega (arith, size, lt)))
