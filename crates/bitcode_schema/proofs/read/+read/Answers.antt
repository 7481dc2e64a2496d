-- By the variant of the node; lengths and variants first, and then what they are of.
use Rattle.std.proofs.Common.{rules, ◌≡◌, ◌+◌, ◌∙◌, ◌≤◌, ◌*◌, ◌^◌, refl, sym, inl, length, None, arith}
use Rattle.std.proofs.lemmas.Bool.{false≢true}
use Rattle.std.proofs.lemmas.Result.{err_from_is_err_and, IfErr-weaker, IfOk-weaker}
use Rattle.bitcode_shapes.specs.Shape.{pair_shape}
use Rattle.bitcode_memory.specs.Fast.{cow_rest}
use Rattle.bitcode_coder.specs.Length.{short_left, large_left, lengths_left}
use Rattle.bitcode_enums.proofs.ReadingLemmas.{fault_of_variants}
use Rattle.bitcode_schema.specs.Forms.{shape_of, shapes_of}
use Rattle.bitcode_schema.specs.Reading.{fields_of, variant_shapes}
use Rattle.bitcode_schema.proofs.ChoiceLemmas.{count_shapes, choices_none, choices_next, choices_fault, choices_all}
use Rattle.bitcode_schema.proofs.FieldLemmas.{range_pair, whole_range, one_field, no_fields, reads_both, fault_of_second}
use Rattle.bitcode_schema.proofs.PartLemmas.{few_payloads}
use Rattle.bitcode_schema.proofs.ShapeLemmas.{shape-Unit, shape-Never, shape-Bool, shape-Char, shape-Int, shape-NonZero, shape-F32, shape-F64, shape-Str, shape-Duration, shape-Uuid, shape-List, shape-Map, shape-Array, shape-Tuple, shape-Struct, shape-Option, shape-Result, shape-Enum, length-Enum, no_variants, only_variant, several_variants}
use Rattle.bitcode_schema.proofs.SequenceLemmas.{lengths_fault, elements_fault, reads_lists, reads_capped, lists_over, reads_maps, maps_fault, reads_all, fault_of_elements, arrays_over}
use Rattle.bitcode_schema.proofs.read.+read.Goals as goal

pub read-returns-in-Unit-clause-read : goal.read-returns-in-Unit-clause-read
read-returns-in-Unit-clause-read t c = rw (c.in-Unit.is, shape-Unit) c.read_leaf.ensures.read

pub read-returns-in-Unit-clause-exact : goal.read-returns-in-Unit-clause-exact
read-returns-in-Unit-clause-exact t c = rw (c.in-Unit.is, shape-Unit) c.read_leaf.ensures.exact

pub read-returns-in-Never-clause-read : goal.read-returns-in-Never-clause-read
read-returns-in-Never-clause-read t c = rw (c.in-Never.is, shape-Never) c.read_leaf-in-Never.ensures.read

pub read-returns-in-Never-clause-exact : goal.read-returns-in-Never-clause-exact
read-returns-in-Never-clause-exact t c = rw (c.in-Never.is, shape-Never) c.read_leaf-in-Never.ensures.exact

pub read-returns-in-Bool-clause-read : goal.read-returns-in-Bool-clause-read
read-returns-in-Bool-clause-read t c = rw (c.in-Bool.is, shape-Bool) c.read_leaf-in-Bool.ensures.read

pub read-returns-in-Bool-clause-exact : goal.read-returns-in-Bool-clause-exact
read-returns-in-Bool-clause-exact t c = rw (c.in-Bool.is, shape-Bool) c.read_leaf-in-Bool.ensures.exact

pub read-returns-in-Char-clause-read : goal.read-returns-in-Char-clause-read
read-returns-in-Char-clause-read t c = rw (c.in-Char.is, shape-Char) c.read_leaf-in-Char.ensures.read

pub read-returns-in-Char-clause-exact : goal.read-returns-in-Char-clause-exact
read-returns-in-Char-clause-exact t c = rw (c.in-Char.is, shape-Char) c.read_leaf-in-Char.ensures.exact

pub read-returns-in-F32-clause-read : goal.read-returns-in-F32-clause-read
read-returns-in-F32-clause-read t c = rw (c.in-F32.is, shape-F32) c.read_leaf-in-F32.ensures.read

pub read-returns-in-F32-clause-exact : goal.read-returns-in-F32-clause-exact
read-returns-in-F32-clause-exact t c = rw (c.in-F32.is, shape-F32) c.read_leaf-in-F32.ensures.exact

pub read-returns-in-F64-clause-read : goal.read-returns-in-F64-clause-read
read-returns-in-F64-clause-read t c = rw (c.in-F64.is, shape-F64) c.read_leaf-in-F64.ensures.read

pub read-returns-in-F64-clause-exact : goal.read-returns-in-F64-clause-exact
read-returns-in-F64-clause-exact t c = rw (c.in-F64.is, shape-F64) c.read_leaf-in-F64.ensures.exact

pub read-returns-in-Int-clause-read : goal.read-returns-in-Int-clause-read
read-returns-in-Int-clause-read t c = rw (c.in-Int.is, shape-Int c.in-Int.kind) c.read_ints.ensures.read

pub read-returns-in-Int-clause-exact : goal.read-returns-in-Int-clause-exact
read-returns-in-Int-clause-exact t c = rw (c.in-Int.is, shape-Int c.in-Int.kind) c.read_ints.ensures.exact

pub read-returns-in-NonZero-clause-read : goal.read-returns-in-NonZero-clause-read
read-returns-in-NonZero-clause-read t c = rw (c.in-NonZero.is, shape-NonZero c.in-NonZero.kind) c.read_nonzeros.ensures.read

pub read-returns-in-NonZero-clause-exact : goal.read-returns-in-NonZero-clause-exact
read-returns-in-NonZero-clause-exact t c = rw (c.in-NonZero.is, shape-NonZero c.in-NonZero.kind) c.read_nonzeros.ensures.exact

pub read-returns-in-Str-clause-read : goal.read-returns-in-Str-clause-read
read-returns-in-Str-clause-read t c = rw (c.in-Str.is, shape-Str c.in-Str.capacity) c.read_texts.ensures.read

pub read-returns-in-Str-clause-exact : goal.read-returns-in-Str-clause-exact
read-returns-in-Str-clause-exact t c = rw (c.in-Str.is, shape-Str c.in-Str.capacity) c.read_texts.ensures.exact

pub read-returns-in-Duration-clause-read : goal.read-returns-in-Duration-clause-read
read-returns-in-Duration-clause-read t c = rw (c.in-Duration.is, shape-Duration) c.read_durations.ensures.read

pub read-returns-in-Duration-clause-exact : goal.read-returns-in-Duration-clause-exact
read-returns-in-Duration-clause-exact t c = rw (c.in-Duration.is, shape-Duration) c.read_durations.ensures.exact

pub read-returns-in-Uuid-clause-read : goal.read-returns-in-Uuid-clause-read
read-returns-in-Uuid-clause-read t c = rw (c.in-Uuid.is, shape-Uuid) c.read_uuids.ensures.read

pub read-returns-in-Uuid-clause-exact : goal.read-returns-in-Uuid-clause-exact
read-returns-in-Uuid-clause-exact t c = rw (c.in-Uuid.is, shape-Uuid) c.read_uuids.ensures.exact

pub read-returns-in-List-clause-read : goal.read-returns-in-List-clause-read
read-returns-in-List-clause-read t c = rw (c.in-List.is, shape-List c.in-List.capacity c.in-List.element, ← c.deref.ensures) c.read_lists.ensures.read

pub read-returns-in-List-clause-exact : goal.read-returns-in-List-clause-exact
read-returns-in-List-clause-exact t c = rw (c.in-List.is, shape-List c.in-List.capacity c.in-List.element, ← c.deref.ensures) c.read_lists.ensures.exact

pub read-returns-in-Map-clause-read : goal.read-returns-in-Map-clause-read
read-returns-in-Map-clause-read t c = rw (c.in-Map.is, shape-Map c.in-Map.key c.in-Map.value, ← c.deref-in-Map.ensures, ← c.deref-in-Map-2.ensures) c.read_maps.ensures.read

pub read-returns-in-Map-clause-exact : goal.read-returns-in-Map-clause-exact
read-returns-in-Map-clause-exact t c = rw (c.in-Map.is, shape-Map c.in-Map.key c.in-Map.value, ← c.deref-in-Map.ensures, ← c.deref-in-Map-2.ensures) c.read_maps.ensures.exact

pub read-returns-in-Array-clause-read : goal.read-returns-in-Array-clause-read
read-returns-in-Array-clause-read t c = rw (c.in-Array.is, shape-Array c.in-Array.size c.in-Array.element, ← c.deref-in-Array.ensures) c.read_arrays.ensures.read

pub read-returns-in-Array-clause-exact : goal.read-returns-in-Array-clause-exact
read-returns-in-Array-clause-exact t c = rw (c.in-Array.is, shape-Array c.in-Array.size c.in-Array.element, ← c.deref-in-Array.ensures) c.read_arrays.ensures.exact

pub read-returns-in-Tuple-clause-read : goal.read-returns-in-Tuple-clause-read
read-returns-in-Tuple-clause-read t c = rw (c.in-Tuple.is, shape-Tuple c.in-Tuple._fields) (rw c.in-Tuple.is at c.read_tuples.ensures.read)

pub read-returns-in-Tuple-clause-exact : goal.read-returns-in-Tuple-clause-exact
read-returns-in-Tuple-clause-exact t c = rw (c.in-Tuple.is, shape-Tuple c.in-Tuple._fields) (rw c.in-Tuple.is at c.read_tuples.ensures.exact)

pub read-returns-in-Struct-clause-read : goal.read-returns-in-Struct-clause-read
read-returns-in-Struct-clause-read t c = rw (c.in-Struct.is, shape-Struct c.in-Struct._fields) (rw c.in-Struct.is at c.read_tuples-in-Struct.ensures.read)

pub read-returns-in-Struct-clause-exact : goal.read-returns-in-Struct-clause-exact
read-returns-in-Struct-clause-exact t c = rw (c.in-Struct.is, shape-Struct c.in-Struct._fields) (rw c.in-Struct.is at c.read_tuples-in-Struct.ensures.exact)

pub read-returns-in-Option-clause-read : goal.read-returns-in-Option-clause-read
read-returns-in-Option-clause-read t c = rw (c.in-Option.is, shape-Option c.in-Option._some) (rw c.in-Option.is at c.read_choices.ensures.read)

pub read-returns-in-Option-clause-exact : goal.read-returns-in-Option-clause-exact
read-returns-in-Option-clause-exact t c = rw (c.in-Option.is, shape-Option c.in-Option._some) (rw c.in-Option.is at c.read_choices.ensures.exact)

pub read-returns-in-Result-clause-read : goal.read-returns-in-Result-clause-read
read-returns-in-Result-clause-read t c = rw (c.in-Result.is, shape-Result c.in-Result._ok c.in-Result._err) (rw c.in-Result.is at c.read_choices-in-Result.ensures.read)

pub read-returns-in-Result-clause-exact : goal.read-returns-in-Result-clause-exact
read-returns-in-Result-clause-exact t c = rw (c.in-Result.is, shape-Result c.in-Result._ok c.in-Result._err) (rw c.in-Result.is at c.read_choices-in-Result.ensures.exact)

pub read-returns-in-Enum-clause-read : goal.read-returns-in-Enum-clause-read
read-returns-in-Enum-clause-read t c = rw (c.in-Enum.is, shape-Enum c.in-Enum.variants) (rw c.in-Enum.is at c.read_enum.ensures.read)

pub read-returns-in-Enum-clause-exact : goal.read-returns-in-Enum-clause-exact
read-returns-in-Enum-clause-exact t c = rw (c.in-Enum.is, shape-Enum c.in-Enum.variants) (rw c.in-Enum.is at c.read_enum.ensures.exact)

pub read_lists-returns-in_err-lengths_written-clause-exact : goal.read_lists-returns-in_err-lengths_written-clause-exact
read_lists-returns-in_err-lengths_written-clause-exact t c =
    let refused = err_from_is_err_and c.from_residual.result c.from_residual.ensures.1 in
    rw (refused.1, refused.2) (lengths_fault c.args.k c.args.strict c.args.capacity _ _ _ c.in_err-lengths_written.ensures.refused)

pub read_lists-returns-in_err-elements_written-clause-exact : goal.read_lists-returns-in_err-elements_written-clause-exact
read_lists-returns-in_err-elements_written-clause-exact t c =
    let refused = err_from_is_err_and c.from_residual-in_err-elements_written.result c.from_residual-in_err-elements_written.ensures.1 in
    rw (refused.1, refused.2) (elements_fault c.args.k c.args.strict _ c.in_ok-lengths_written.ensures.read c.args.capacity _ (rw (c.length.ensures, c.in_ok-lengths_written.ensures.sum) at c.in_err-elements_written.ensures.exact))

pub read_lists-returns-then-exceed-clause-exact : goal.read_lists-returns-then-exceed-clause-exact
unfolding short_left large_left lengths_left
read_lists-returns-then-exceed-clause-exact t c =
    rw c.err.ensures (lists_over c.args.k c.args.strict _ c.in_ok-lengths_written.ensures.read c.in_ok-lengths_written.ensures.judged (rw (c.length.ensures, c.in_ok-lengths_written.ensures.sum) at c.in_ok-elements_written.ensures.read) refl c.in_ok-lengths_written.ensures.parts c.args.capacity (rw c.if-exceed.true at c.exceed.ensures))

pub read_lists-returns-clause-read : goal.read_lists-returns-clause-read
unfolding short_left large_left lengths_left
read_lists-returns-clause-read t c =
    rw c.both.ensures (reads_capped c.args.k c.args.strict _ c.in_ok-lengths_written.ensures.read c.in_ok-lengths_written.ensures.judged (rw (c.length.ensures, c.in_ok-lengths_written.ensures.sum) at c.in_ok-elements_written.ensures.read) refl c.in_ok-lengths_written.ensures.parts c.args.capacity (rw c.if-exceed.false at c.exceed.ensures))

pub read_maps-returns-in_err-lengths_written-clause-exact : goal.read_maps-returns-in_err-lengths_written-clause-exact
read_maps-returns-in_err-lengths_written-clause-exact t c =
    let refused = err_from_is_err_and c.from_residual.result c.from_residual.ensures.1 in
    rw (refused.1, refused.2) (maps_fault c.args.k c.args.strict (shape_of c.args.key.now) (shape_of c.args.value.now) _ _ (lengths_fault c.args.k c.args.strict None (pair_shape (shape_of c.args.key.now) (shape_of c.args.value.now)) _ _ c.in_err-lengths_written.ensures.refused))

pub read_maps-returns-in_err-keys_written-clause-exact : goal.read_maps-returns-in_err-keys_written-clause-exact
read_maps-returns-in_err-keys_written-clause-exact t c =
    let refused = err_from_is_err_and c.from_residual-in_err-keys_written.result c.from_residual-in_err-keys_written.ensures.1 in
    rw (refused.1, refused.2) (maps_fault c.args.k c.args.strict (shape_of c.args.key.now) (shape_of c.args.value.now) _ _ (elements_fault c.args.k c.args.strict (pair_shape (shape_of c.args.key.now) (shape_of c.args.value.now)) c.in_ok-lengths_written.ensures.read None _ (inl (rw (c.length.ensures, c.in_ok-lengths_written.ensures.sum) at c.in_err-keys_written.ensures.exact))))

pub read_maps-returns-in_err-values_written-clause-exact : goal.read_maps-returns-in_err-values_written-clause-exact
read_maps-returns-in_err-values_written-clause-exact t c =
    let refused = err_from_is_err_and c.from_residual-in_err-values_written.result c.from_residual-in_err-values_written.ensures.1 in
    rw (refused.1, refused.2) (maps_fault c.args.k c.args.strict (shape_of c.args.key.now) (shape_of c.args.value.now) _ _ (elements_fault c.args.k c.args.strict (pair_shape (shape_of c.args.key.now) (shape_of c.args.value.now)) c.in_ok-lengths_written.ensures.read None _ (fault_of_second _ _ _ c.args.strict _ (rw (c.length.ensures, c.in_ok-lengths_written.ensures.sum) at c.in_ok-keys_written.ensures.read) (rw (c.length-2.ensures, c.in_ok-lengths_written.ensures.sum) at c.in_err-values_written.ensures.exact))))

pub read_maps-returns-clause-read : goal.read_maps-returns-clause-read
read_maps-returns-clause-read t c =
    rw (c.both-2.ensures, c.both.ensures) (reads_maps c.args.k c.args.strict _ _ (reads_lists c.args.k c.args.strict _ c.in_ok-lengths_written.ensures.read c.in_ok-lengths_written.ensures.judged (reads_both _ _ _ c.args.strict (rw (c.length.ensures, c.in_ok-lengths_written.ensures.sum) at c.in_ok-keys_written.ensures.read) (rw (c.length-2.ensures, c.in_ok-lengths_written.ensures.sum) at c.in_ok-values_written.ensures.read))))

pub read_arrays-returns-in_err-count-clause-exact : goal.read_arrays-returns-in_err-count-clause-exact
read_arrays-returns-in_err-count-clause-exact t c =
    let refused = err_from_is_err_and c.from_residual.result c.from_residual.ensures.1 in
    rw (refused.1, refused.2) (arrays_over c.args.k c.args.strict _ _ _ _ (c.in_err-count.ensures.refused.0 refl) c.in_err-count.ensures.reason)

pub read_arrays-returns-clause-exact : goal.read_arrays-returns-clause-exact
read_arrays-returns-clause-exact t c =
    IfErr-weaker c.read.result _ _ (λ e fault. fault_of_elements c.args.k c.args.strict _ _ _ _ (let over : 2 ^ 64 ≤ c.args.k * c.args.size → ⊥ = λ many. false≢true (c.in_ok-count.ensures.refused.1 many) in omega arith) (rw c.in_ok-count.ensures.product at fault)) c.read.ensures.exact

pub read_arrays-returns-clause-read : goal.read_arrays-returns-clause-read
read_arrays-returns-clause-read t c =
    IfOk-weaker c.read.result _ _ (λ written found. reads_all c.args.k c.args.strict _ _ (let over : 2 ^ 64 ≤ c.args.k * c.args.size → ⊥ = λ many. false≢true (c.in_ok-count.ensures.refused.1 many) in omega arith) (rw c.in_ok-count.ensures.product at found)) c.read.ensures.read

pub read_tuples-returns-then-count-eq0-clause-read : goal.read_tuples-returns-then-count-eq0-clause-read
read_tuples-returns-then-count-eq0-clause-read t c = rw (no_fields (fields_of c.args.node.now) (sym c.field_count-count.ensures ∙ c.if-count-eq0.true)) c.read_leaf.ensures.read

pub read_tuples-returns-clause-read : goal.read_tuples-returns-clause-read
read_tuples-returns-clause-read t c = rw (whole_range (fields_of c.args.node.now) c.field_count-count.result c.field_count-count.ensures) at c.read_fields.ensures.read

pub read_tuples-returns-then-count-eq0-clause-exact : goal.read_tuples-returns-then-count-eq0-clause-exact
read_tuples-returns-then-count-eq0-clause-exact t c = rw (no_fields (fields_of c.args.node.now) (sym c.field_count-count.ensures ∙ c.if-count-eq0.true)) c.read_leaf.ensures.exact

pub read_tuples-returns-clause-exact : goal.read_tuples-returns-clause-exact
read_tuples-returns-clause-exact t c = rw (whole_range (fields_of c.args.node.now) c.field_count-count.result c.field_count-count.ensures) at c.read_fields.ensures.exact

pub read_fields-returns-in_err-first_written-clause-exact : goal.read_fields-returns-in_err-first_written-clause-exact
read_fields-returns-in_err-first_written-clause-exact t c =
    let refused = err_from_is_err_and c.from_residual.result c.from_residual.ensures.1 in
    rw (refused.1, refused.2) (rw (range_pair (fields_of c.args.node.now) c.args.from c.args.to c.if-count-gt1.true c.requires.range.1) (inl c.in_err-first_written.ensures.exact))

pub read_fields-returns-in_err-second_written-clause-exact : goal.read_fields-returns-in_err-second_written-clause-exact
read_fields-returns-in_err-second_written-clause-exact t c =
    let refused = err_from_is_err_and c.from_residual-in_err-second_written.result c.from_residual-in_err-second_written.ensures.1 in
    rw (refused.1, refused.2) (rw (range_pair (fields_of c.args.node.now) c.args.from c.args.to c.if-count-gt1.true c.requires.range.1) (fault_of_second c.args.k _ _ c.args.strict _ c.in_ok-first_written.ensures.read c.in_err-second_written.ensures.exact))

pub read_fields-returns-then-count-gt1-clause-read : goal.read_fields-returns-then-count-gt1-clause-read
read_fields-returns-then-count-gt1-clause-read t c =
    rw (range_pair (fields_of c.args.node.now) c.args.from c.args.to c.if-count-gt1.true c.requires.range.1) (rw c.both.ensures (reads_both c.args.k _ _ c.args.strict c.in_ok-first_written.ensures.read c.in_ok-second_written.ensures.read))

pub read_fields-returns-clause-read : goal.read_fields-returns-clause-read
read_fields-returns-clause-read t c = rw (one_field (fields_of c.args.node.now) c.args.from c.args.to c.in-Some.field.now (omega (arith, c.if-count-gt1.false, c.requires.range)) c.in-Some.ensures.found) c.read.ensures.read

pub read_fields-returns-clause-exact : goal.read_fields-returns-clause-exact
read_fields-returns-clause-exact t c = rw (one_field (fields_of c.args.node.now) c.args.from c.args.to c.in-Some.field.now (omega (arith, c.if-count-gt1.false, c.requires.range)) c.in-Some.ensures.found) c.read.ensures.exact

pub read-read_enum-requires : goal.read-read_enum-requires
read-read_enum-requires t c =
    let most : c.len.result ≤ 256 =
    (let few = few_payloads c.in-Enum.variants (rw c.in-Enum.is at c.requires.few) in omega (arith, few, c.len.ensures, c.in-Enum.variants.ok.0)) in
    let count : length (variant_shapes c.args.node.now) ≡ c.len.result =
    rw c.in-Enum.is (let e = length-Enum c.in-Enum.variants in omega (arith, e, c.len.ensures, c.in-Enum.variants.ok.0)) in
    (search rules, (c.requires.few, (most, count)))

pub read_enum-read_payloads-requires : goal.read_enum-read_payloads-requires
read_enum-read_payloads-requires t c = (search rules, (c.requires.few, omega (arith, c.requires.count, c.if-count-eq1.true)))

pub read_enum-read_choices-requires : goal.read_enum-read_choices-requires
read_enum-read_choices-requires t c =
    (search rules, (c.requires.few, ((omega (arith, c.if-count-eq0.false, c.if-count-eq1.false), c.requires.most), c.requires.count)))

pub read_enum-returns-then-count-eq0-clause-read : goal.read_enum-returns-then-count-eq0-clause-read
read_enum-returns-then-count-eq0-clause-read t c = rw (no_variants (variant_shapes c.args.node.now) (c.requires.count ∙ c.if-count-eq0.true)) c.read_leaf.ensures.read

pub read_enum-returns-then-count-eq1-clause-read : goal.read_enum-returns-then-count-eq1-clause-read
read_enum-returns-then-count-eq1-clause-read t c = rw (only_variant (variant_shapes c.args.node.now) (c.requires.count ∙ c.if-count-eq1.true)) c.read_payloads.ensures.read

pub read_enum-returns-clause-read : goal.read_enum-returns-clause-read
read_enum-returns-clause-read t c = rw (several_variants (variant_shapes c.args.node.now) (omega (arith, c.requires.count, c.if-count-eq0.false, c.if-count-eq1.false))) c.read_choices.ensures.read

pub read_enum-returns-then-count-eq0-clause-exact : goal.read_enum-returns-then-count-eq0-clause-exact
read_enum-returns-then-count-eq0-clause-exact t c = rw (no_variants (variant_shapes c.args.node.now) (c.requires.count ∙ c.if-count-eq0.true)) c.read_leaf.ensures.exact

pub read_enum-returns-then-count-eq1-clause-exact : goal.read_enum-returns-then-count-eq1-clause-exact
read_enum-returns-then-count-eq1-clause-exact t c = rw (only_variant (variant_shapes c.args.node.now) (c.requires.count ∙ c.if-count-eq1.true)) c.read_payloads.ensures.exact

pub read_enum-returns-clause-exact : goal.read_enum-returns-clause-exact
read_enum-returns-clause-exact t c = rw (several_variants (variant_shapes c.args.node.now) (omega (arith, c.requires.count, c.if-count-eq0.false, c.if-count-eq1.false))) c.read_choices.ensures.exact

pub read_choices-returns-in_err-written-clause-exact : goal.read_choices-returns-in_err-written-clause-exact
read_choices-returns-in_err-written-clause-exact t c =
    let refused = err_from_is_err_and c.from_residual.result c.from_residual.ensures.1 in
    rw (refused.1, refused.2) (fault_of_variants (shapes_of (variant_shapes c.args.node.now)) c.args.count c.args.k _ (count_shapes (variant_shapes c.args.node.now) ∙ c.requires.count) _ c.in_err-written.ensures.refused)

pub read_choices-loop-variant-init : goal.read_choices-loop-variant-init
read_choices-loop-variant-init t c = choices_none (shapes_of (variant_shapes c.args.node.now)) c.args.count c.args.strict _ _ _

pub read_choices-loop-variant-preserved : goal.read_choices-loop-variant-preserved
read_choices-loop-variant-preserved t c =
    rw c.both-written.ensures
    (choices_next (shapes_of (variant_shapes c.args.node.now)) c.args.count c.args.strict (cow_rest c.read_variants.new.out) c.read_variants.new.input.now c.in_ok-written.written
    (count_shapes (variant_shapes c.args.node.now) ∙ c.requires.count) c.loop-variant.variant c.loop-variant.written c.loop-variant.input.now c.loop-variant.invariant c.loop-variant-test.true
    c.in_ok-payloads_written.payloads_written c.read_payloads.new.input.now (c.loop-variant.variant + 1) (omega arith)
    (rw (c.times-number.ensures, c.as_slice.ensures) at c.in_ok-payloads_written.ensures.read))

pub read_choices-returns-in_err-payloads_written-clause-exact : goal.read_choices-returns-in_err-payloads_written-clause-exact
read_choices-returns-in_err-payloads_written-clause-exact t c =
    let refused = err_from_is_err_and c.from_residual-in_err-payloads_written.result c.from_residual-in_err-payloads_written.ensures.1 in
    rw (refused.1, refused.2) (choices_fault (shapes_of (variant_shapes c.args.node.now)) c.args.count c.args.strict (cow_rest c.read_variants.new.out) c.read_variants.new.input.now c.in_ok-written.written
    (count_shapes (variant_shapes c.args.node.now) ∙ c.requires.count) c.loop-variant.variant c.loop-variant.written c.loop-variant.input.now c.loop-variant.invariant c.loop-variant-test.true
    c.args.k c.args.input.now.now c.in_ok-written.ensures.read _ (rw (c.times-number.ensures, c.as_slice.ensures) at c.in_err-payloads_written.ensures.exact))

pub read_choices-returns-clause-read : goal.read_choices-returns-clause-read
read_choices-returns-clause-read t c =
    choices_all (shapes_of (variant_shapes c.args.node.now)) c.args.count c.args.strict (cow_rest c.read_variants.new.out) c.read_variants.new.input.now c.in_ok-written.written
    (count_shapes (variant_shapes c.args.node.now) ∙ c.requires.count) c.loop-variant.variant c.loop-variant.written c.loop-variant.input.now c.loop-variant.invariant c.loop-variant-test.false
    c.args.k c.args.input.now.now c.in_ok-written.ensures.read c.in_ok-written.ensures.judged

pub read_payloads-returns-in-Some-clause-read : goal.read_payloads-returns-in-Some-clause-read
read_payloads-returns-in-Some-clause-read t c = rw c.in-Some.ensures.found c.read.ensures.read

pub read_payloads-returns-in-None-clause-read : goal.read_payloads-returns-in-None-clause-read
read_payloads-returns-in-None-clause-read t c = rw c.in-None.ensures.none c.read_leaf.ensures.read

pub read_payloads-returns-in-Some-clause-exact : goal.read_payloads-returns-in-Some-clause-exact
read_payloads-returns-in-Some-clause-exact t c = rw c.in-Some.ensures.found c.read.ensures.exact

pub read_payloads-returns-in-None-clause-exact : goal.read_payloads-returns-in-None-clause-exact
read_payloads-returns-in-None-clause-exact t c = rw c.in-None.ensures.none c.read_leaf.ensures.exact
