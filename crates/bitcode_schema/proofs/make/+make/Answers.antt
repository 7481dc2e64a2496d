-- By the variant of the node; lengths and variants first, and then what they are of.
use Rattle.std.proofs.Common.{rules, ◌≡◌, ◌+◌, ◌∙◌, ◌≤◌, ◌<◌, ◌*◌, ◌^◌, ◌++◌, [], ◌∷◌, refl, sym, ap, subst, length, map, All, None, arith}
use Rattle.std.proofs.lemmas.List.{length-map, map-append}
use Rattle.std.proofs.lemmas.Bool.{false≢true}
use Rattle.std.proofs.lemmas.Result.{IfOk-weaker}
use Rattle.bitcode_memory.specs.Fast.{cow_rest}
use Rattle.bitcode_shapes.specs.Shape.{unit_shape, pair_shape}
use Rattle.bitcode_schema.specs.Forms.{shape_of, shapes_of, content_under}
use Rattle.bitcode_schema.specs.Making.{payload_unit, variant_contents}
use Rattle.bitcode_schema.specs.Reading.{fields_of, variant_shapes}
use Rattle.bitcode_schema.specs.Views.{elements_of, pairs_of}
use Rattle.bitcode_schema.specs.declared.schema.SchemaNode.TheVariants as node
use Rattle.bitcode_schema.proofs.ContentLemmas.{content-Unit, content-Bool, content-Char, content-Int, content-NonZero, content-F32, content-F64, content-Str, content-Duration, content-Uuid, content-List, content-Map, content-Array}
use Rattle.bitcode_schema.proofs.HeldLemmas.{makes_as, makes_lists, makes_arrays, makes_maps, makes_pairs, same_length, made_length}
use Rattle.bitcode_schema.proofs.FieldLemmas.{range, whole_range}
use Rattle.bitcode_schema.proofs.NodeMakingLemmas.{as_many_contents, makes_halves, makes_one_field, makes_no_fields, makes_tuples, tuple_contents, struct_contents, makes_option_node, makes_result_node, makes_enum_node, makes_single_enum, makes_several_enum, makes_payloads}
use Rattle.bitcode_schema.proofs.ChoiceLemmas.{count_shapes}
use Rattle.bitcode_schema.proofs.ChoiceWritingLemmas.{there_below}
use Rattle.bitcode_schema.proofs.PayloadMakingLemmas.{PayloadsTo, payloads_none, payloads_next, choices_made}
use Rattle.bitcode_schema.proofs.PartLemmas.{few_payloads}
use Rattle.bitcode_schema.proofs.ShapeLemmas.{length-Enum, shape-Unit, shape-Never, shape-Tuple, shape-Struct, shape-Bool, shape-Char, shape-Int, shape-NonZero, shape-F32, shape-F64, shape-Str, shape-Duration, shape-Uuid, shape-List, shape-Map, shape-Array}
use Rattle.bitcode_schema.proofs.make.+make.Goals as goal

pub make-returns-in-Unit : goal.make-returns-in-Unit
make-returns-in-Unit t c = record {
  made = rw c.in-Unit.is
      (IfOk-weaker c.make_units.result _ _ (λ values m. makes_as _ (content_under node.Unit) (λ v. sym (content-Unit v)) _ (shape_of node.Unit) (sym shape-Unit) c.args.k _ _ values.items m)
      c.make_units.ensures.made);
}

pub make-returns-in-Bool : goal.make-returns-in-Bool
make-returns-in-Bool t c = record {
  made = rw c.in-Bool.is
      (IfOk-weaker c.make_leaf.result _ _ (λ values m. makes_as _ (content_under node.Bool) (λ v. sym (content-Bool v)) _ (shape_of node.Bool) (sym shape-Bool) c.args.k _ _ values.items m)
      c.make_leaf.ensures.made);
}

pub make-returns-in-Char : goal.make-returns-in-Char
make-returns-in-Char t c = record {
  made = rw c.in-Char.is
      (IfOk-weaker c.make_leaf-in-Char.result _ _ (λ values m. makes_as _ (content_under node.Char) (λ v. sym (content-Char v)) _ (shape_of node.Char) (sym shape-Char) c.args.k _ _ values.items m)
      c.make_leaf-in-Char.ensures.made);
}

pub make-returns-in-F32 : goal.make-returns-in-F32
make-returns-in-F32 t c = record {
  made = rw c.in-F32.is
      (IfOk-weaker c.make_leaf-in-F32.result _ _ (λ values m. makes_as _ (content_under node.F32) (λ v. sym (content-F32 v)) _ (shape_of node.F32) (sym shape-F32) c.args.k _ _ values.items m)
      c.make_leaf-in-F32.ensures.made);
}

pub make-returns-in-F64 : goal.make-returns-in-F64
make-returns-in-F64 t c = record {
  made = rw c.in-F64.is
      (IfOk-weaker c.make_leaf-in-F64.result _ _ (λ values m. makes_as _ (content_under node.F64) (λ v. sym (content-F64 v)) _ (shape_of node.F64) (sym shape-F64) c.args.k _ _ values.items m)
      c.make_leaf-in-F64.ensures.made);
}

pub make-returns-in-Int : goal.make-returns-in-Int
make-returns-in-Int t c = record {
  made = rw c.in-Int.is
      (IfOk-weaker c.make_ints.result _ _ (λ values m. makes_as _ (content_under (node.Int c.in-Int.kind)) (λ v. sym (content-Int c.in-Int.kind v)) _ (shape_of (node.Int c.in-Int.kind)) (sym (shape-Int c.in-Int.kind)) c.args.k _ _ values.items m)
      c.make_ints.ensures.made);
}

pub make-returns-in-NonZero : goal.make-returns-in-NonZero
make-returns-in-NonZero t c = record {
  made = rw c.in-NonZero.is
      (IfOk-weaker c.make_nonzeros.result _ _ (λ values m. makes_as _ (content_under (node.NonZero c.in-NonZero.kind)) (λ v. sym (content-NonZero c.in-NonZero.kind v)) _ (shape_of (node.NonZero c.in-NonZero.kind)) (sym (shape-NonZero c.in-NonZero.kind)) c.args.k _ _ values.items m)
      c.make_nonzeros.ensures.made);
}

pub make-returns-in-Str : goal.make-returns-in-Str
make-returns-in-Str t c = record {
  made = rw c.in-Str.is
      (IfOk-weaker c.make_texts.result _ _ (λ values m. makes_as _ (content_under (node.Str c.in-Str.capacity)) (λ v. sym (content-Str c.in-Str.capacity v)) _ (shape_of (node.Str c.in-Str.capacity)) (sym (shape-Str c.in-Str.capacity)) c.args.k _ _ values.items m)
      c.make_texts.ensures.made);
}

pub make-returns-in-Duration : goal.make-returns-in-Duration
make-returns-in-Duration t c = record {
  made = rw c.in-Duration.is
      (IfOk-weaker c.make_durations.result _ _ (λ values m. makes_as _ (content_under node.Duration) (λ v. sym (content-Duration v)) _ (shape_of node.Duration) (sym shape-Duration) c.args.k _ _ values.items m)
      c.make_durations.ensures.made);
}

pub make-returns-in-Uuid : goal.make-returns-in-Uuid
make-returns-in-Uuid t c = record {
  made = rw c.in-Uuid.is
      (IfOk-weaker c.make_uuids.result _ _ (λ values m. makes_as _ (content_under node.Uuid) (λ v. sym (content-Uuid v)) _ (shape_of node.Uuid) (sym shape-Uuid) c.args.k _ _ values.items m)
      c.make_uuids.ensures.made);
}

pub make_lists-returns : goal.make_lists-returns
make_lists-returns t c = record {
  made = IfOk-weaker c.lists.result _ _
      (λ values h.
      makes_lists (content_under c.args.element.now) elements_of (shape_of c.args.element.now) c.args.k _ _ c.in_ok-elements.elements.items values.items
      c.args.capacity _ _ c.in_ok-lengths.ensures.read (rw (c.length.ensures, c.in_ok-lengths.ensures.sum) at c.in_ok-elements.ensures.made) h)
      c.lists.ensures.made;
}

pub make_maps-zipped-requires : goal.make_maps-zipped-requires
make_maps-zipped-requires t c =
    same_length (content_under c.args.key.now) (content_under c.args.value.now) (shape_of c.args.key.now) (shape_of c.args.value.now) _ _ _ _ _ _
    (rw (c.length.ensures, c.in_ok-lengths.ensures.sum) at c.in_ok-keys.ensures.made) (rw (c.length-2.ensures, c.in_ok-lengths.ensures.sum) at c.in_ok-values.ensures.made)

pub make_maps-returns : goal.make_maps-returns
make_maps-returns t c =
    let keys = rw (c.length.ensures, c.in_ok-lengths.ensures.sum) at c.in_ok-keys.ensures.made in
    let values = rw (c.length-2.ensures, c.in_ok-lengths.ensures.sum) at c.in_ok-values.ensures.made in
    let pairs =
    makes_pairs (content_under c.args.key.now) (content_under c.args.value.now) (shape_of c.args.key.now) (shape_of c.args.value.now) _ _ _ _ _ _ keys values
    c.in_ok-pairs.pairs.items c.in_ok-pairs.ensures.firsts c.in_ok-pairs.ensures.seconds in
    record {
      made = IfOk-weaker c.lists.result _ _
          (λ maps h.
          makes_maps _ (shape_of c.args.key.now) (shape_of c.args.value.now) c.args.k _ _ maps.items
          (makes_lists _ pairs_of (pair_shape (shape_of c.args.key.now) (shape_of c.args.value.now)) c.args.k _ _ c.in_ok-pairs.pairs.items maps.items
          None _ _ c.in_ok-lengths.ensures.read pairs h))
          c.lists.ensures.made;
    }

pub make_arrays-arrays-requires : goal.make_arrays-arrays-requires
make_arrays-arrays-requires t c =
    sym (made_length (content_under c.args.element.now) (shape_of c.args.element.now) (c.args.k * c.args.size) _ _ _
    (rw c.in_ok-count.ensures.product at c.in_ok-elements.ensures.made))

pub make_arrays-returns : goal.make_arrays-returns
make_arrays-returns t c =
    let few : c.args.k * c.args.size < 2 ^ 64 =
    (let over : 2 ^ 64 ≤ c.args.k * c.args.size → ⊥ = λ many. false≢true (c.in_ok-count.ensures.refused.1 many) in omega arith) in
    record {
      made = IfOk-weaker c.arrays.result _ _
          (λ values h.
          makes_arrays (content_under c.args.element.now) elements_of (shape_of c.args.element.now) c.args.k _ _ c.in_ok-elements.elements.items values.items
          c.args.size few (rw c.in_ok-count.ensures.product at c.in_ok-elements.ensures.made) h)
          c.arrays.ensures.made;
    }

pub make_fields-zipped-requires : goal.make_fields-zipped-requires
make_fields-zipped-requires t c = same_length _ _ _ _ _ _ _ _ _ _ c.in_ok-first.ensures.made c.in_ok-second.ensures.made

pub make_fields-returns-then-count-gt1 : goal.make_fields-returns-then-count-gt1
make_fields-returns-then-count-gt1 t c = record {
  made = IfOk-weaker c.each.result _ _
      (λ rows each.
      makes_halves (fields_of c.args.node.now) c.args.from c.args.to c.args.k _ _ rows.items _ _ _ c.in_ok-halves.halves.items c.if-count-gt1.true
      c.requires.range.1 c.in_ok-first.ensures.made c.in_ok-second.ensures.made c.in_ok-halves.ensures.firsts c.in_ok-halves.ensures.seconds each)
      c.each.ensures;
}

pub make_fields-returns : goal.make_fields-returns
make_fields-returns t c = record {
  made = IfOk-weaker c.each-in-Some.result _ _
      (λ rows each.
      makes_one_field (fields_of c.args.node.now) c.args.from c.args.to c.args.k _ _ rows.items c.in-Some.field.now c.in_ok-values-in-Some.values.items
      (omega (arith, c.if-count-gt1.false, c.requires.range)) c.in-Some.ensures.found each c.in_ok-values-in-Some.ensures.made)
      c.each-in-Some.ensures;
}

pub make_tuples-returns-then-count-eq0 : goal.make_tuples-returns-then-count-eq0
make_tuples-returns-then-count-eq0 t c = record {
  made = IfOk-weaker c.each.result _ _
      (λ values each.
      makes_no_fields (fields_of c.args.node.now) c.args.k _ _ values.items c.in_ok-units.units.items (sym c.field_count-count.ensures ∙ c.if-count-eq0.true) each
      c.in_ok-units.ensures.made)
      c.each.ensures;
}

pub make_tuples-returns : goal.make_tuples-returns
make_tuples-returns t c = record {
  made = IfOk-weaker c.each-2.result _ _
      (λ values each.
      makes_tuples (fields_of c.args.node.now) c.args.k _ _ values.items (range 0 c.field_count-count.result (fields_of c.args.node.now)) c.in_ok-rows.rows.items
      (whole_range (fields_of c.args.node.now) c.field_count-count.result c.field_count-count.ensures) each c.in_ok-rows.ensures.made)
      c.each-2.ensures;
}

pub make-returns-in-Tuple : goal.make-returns-in-Tuple
make-returns-in-Tuple t c = record {
  made = rw c.in-Tuple.is
      (IfOk-weaker c.make_tuples.result _ _ (λ values m. makes_as _ (content_under (node.Tuple c.in-Tuple._fields)) (λ v. tuple_contents c.in-Tuple._fields v) _ (shape_of (node.Tuple c.in-Tuple._fields)) (sym (shape-Tuple c.in-Tuple._fields)) c.args.k _ _ values.items m)
      (rw c.in-Tuple.is at c.make_tuples.ensures.made));
}

pub make-returns-in-Struct : goal.make-returns-in-Struct
make-returns-in-Struct t c = record {
  made = rw c.in-Struct.is
      (IfOk-weaker c.make_tuples-in-Struct.result _ _ (λ values m. makes_as _ (content_under (node.Struct c.in-Struct._fields)) (λ v. struct_contents c.in-Struct._fields v) _ (shape_of (node.Struct c.in-Struct._fields)) (sym (shape-Struct c.in-Struct._fields)) c.args.k _ _ values.items m)
      (rw c.in-Struct.is at c.make_tuples-in-Struct.ensures.made));
}

pub make-returns-in_ok-choices-in-Option : goal.make-returns-in_ok-choices-in-Option
make-returns-in_ok-choices-in-Option t c = record {
  made = rw c.in-Option.is
      (IfOk-weaker c.each.result _ _
      (λ values each. makes_option_node c.args.k _ _ values.items c.in-Option._some c.in_ok-choices-in-Option.choices.items each
      (rw c.in-Option.is at c.in_ok-choices-in-Option.ensures.made))
      c.each.ensures);
}

pub make-returns-in_ok-choices-in-Result : goal.make-returns-in_ok-choices-in-Result
make-returns-in_ok-choices-in-Result t c = record {
  made = rw c.in-Result.is
      (IfOk-weaker c.each-in-Result.result _ _
      (λ values each.
      makes_result_node c.args.k _ _ values.items c.in-Result._ok c.in-Result._err c.in_ok-choices-in-Result.choices.items each
      (rw c.in-Result.is at c.in_ok-choices-in-Result.ensures.made))
      c.each-in-Result.ensures);
}

pub make-returns-in-Enum : goal.make-returns-in-Enum
make-returns-in-Enum t c = record {
  made = rw c.in-Enum.is
      (IfOk-weaker c.make_enum.result _ _ (λ values m. makes_enum_node c.args.k _ _ values.items c.in-Enum.variants m) (rw c.in-Enum.is at c.make_enum.ensures.made));
}

pub make-returns-in-Never : goal.make-returns-in-Never
make-returns-in-Never t c = record {
  made = rw c.in-Never.is
      (IfOk-weaker c.make_never.result _ _
      (λ values m. makes_as _ (content_under node.Never) (λ v. refl) _ (shape_of node.Never) (sym shape-Never) c.args.k _ _ values.items (m (content_under node.Never)))
      c.make_never.ensures.made);
}

pub make-returns-in-List : goal.make-returns-in-List
make-returns-in-List t c = record {
  made = rw c.in-List.is
      (IfOk-weaker c.make_lists.result _ _ (λ values m. makes_as _ (content_under (node.List c.in-List.capacity c.in-List.element)) (λ v. sym (content-List c.in-List.capacity c.in-List.element v)) _ (shape_of (node.List c.in-List.capacity c.in-List.element)) (sym (shape-List c.in-List.capacity c.in-List.element)) c.args.k _ _ values.items m)
      (rw c.deref.ensures at c.make_lists.ensures.made));
}

pub make-returns-in-Map : goal.make-returns-in-Map
make-returns-in-Map t c = record {
  made = rw c.in-Map.is
      (IfOk-weaker c.make_maps.result _ _ (λ values m. makes_as _ (content_under (node.Map c.in-Map.key c.in-Map.value)) (λ v. sym (content-Map c.in-Map.key c.in-Map.value v)) _ (shape_of (node.Map c.in-Map.key c.in-Map.value)) (sym (shape-Map c.in-Map.key c.in-Map.value)) c.args.k _ _ values.items m)
      (rw (c.deref-in-Map.ensures, c.deref-in-Map-2.ensures) at c.make_maps.ensures.made));
}

pub make-returns-in-Array : goal.make-returns-in-Array
make-returns-in-Array t c = record {
  made = rw c.in-Array.is
      (IfOk-weaker c.make_arrays.result _ _ (λ values m. makes_as _ (content_under (node.Array c.in-Array.size c.in-Array.element)) (λ v. sym (content-Array c.in-Array.size c.in-Array.element v)) _ (shape_of (node.Array c.in-Array.size c.in-Array.element)) (sym (shape-Array c.in-Array.size c.in-Array.element)) c.args.k _ _ values.items m)
      (rw c.deref-in-Array.ensures at c.make_arrays.ensures.made));
}

pub make_payloads-returns-in-Some : goal.make_payloads-returns-in-Some
make_payloads-returns-in-Some t c = record {
  made = IfOk-weaker c.make.result _ _
      (λ values m.
      makes_payloads c.args.node.now c.args.variant (content_under c.in-Some.payload.now) (shape_of c.in-Some.payload.now) c.args.k _ _ values.items
      c.in-Some.ensures.content c.in-Some.ensures.found m)
      c.make.ensures.made;
}

pub make_payloads-returns-in-None : goal.make_payloads-returns-in-None
make_payloads-returns-in-None t c = record {
  made = IfOk-weaker c.make_units.result _ _
      (λ values m.
      makes_payloads c.args.node.now c.args.variant payload_unit unit_shape c.args.k _ _ values.items c.in-None.ensures.unit c.in-None.ensures.none m)
      c.make_units.ensures.made;
}

pub make-make_enum-requires : goal.make-make_enum-requires
make-make_enum-requires t c =
    let most : c.len.result ≤ 256 =
    (let few = few_payloads c.in-Enum.variants (rw c.in-Enum.is at c.requires.few) in omega (arith, few, c.len.ensures, c.in-Enum.variants.ok.0)) in
    let count : length (variant_shapes c.args.node.now) ≡ c.len.result =
    rw c.in-Enum.is (let e = length-Enum c.in-Enum.variants in omega (arith, e, c.len.ensures, c.in-Enum.variants.ok.0)) in
    (search rules, (c.requires.few, (most, count)))

pub make_enum-make_payloads-requires : goal.make_enum-make_payloads-requires
make_enum-make_payloads-requires t c = (search rules, (c.requires.few, omega (arith, c.requires.count, c.if-count-eq1.true)))

pub make_enum-make_choices-requires : goal.make_enum-make_choices-requires
make_enum-make_choices-requires t c =
    (search rules, (c.requires.few, ((omega (arith, c.if-count-eq0.false, c.if-count-eq1.false), c.requires.most), c.requires.count)))

pub make_enum-returns-then-count-eq1 : goal.make_enum-returns-then-count-eq1
make_enum-returns-then-count-eq1 t c = record {
  made = IfOk-weaker c.each.result _ _
      (λ values each.
      makes_single_enum c.args.k _ _ values.items c.args.node.now c.in_ok-payloads.payloads.items (c.requires.count ∙ c.if-count-eq1.true) each
      c.in_ok-payloads.ensures.made)
      c.each.ensures;
}

pub make_enum-returns : goal.make_enum-returns
make_enum-returns t c = record {
  made = IfOk-weaker c.each-2.result _ _
      (λ values each.
      makes_several_enum c.args.k _ _ values.items c.args.node.now c.in_ok-choices.choices.items
      (omega (arith, c.requires.count, c.if-count-eq0.false, c.if-count-eq1.false)) each c.in_ok-choices.ensures.made)
      c.each-2.ensures;
}

pub make_lists-lists-requires-clause-items : goal.make_lists-lists-requires-clause-items
make_lists-lists-requires-clause-items t c =
    sym (made_length (content_under c.args.element.now) (shape_of c.args.element.now) _ _ _ c.in_ok-elements.elements.items
    (rw (c.length.ensures, c.in_ok-lengths.ensures.sum) at c.in_ok-elements.ensures.made))

pub make_maps-lists-requires-clause-items : goal.make_maps-lists-requires-clause-items
make_maps-lists-requires-clause-items t c =
    sym (made_length (content_under c.args.key.now) (shape_of c.args.key.now) _ _ _ c.in_ok-keys.keys.items
    (rw (c.length.ensures, c.in_ok-lengths.ensures.sum) at c.in_ok-keys.ensures.made))
    ∙ ap length (sym c.in_ok-pairs.ensures.firsts) ∙ length-map c.in_ok-pairs.pairs.items (λ p. p.0)

pub make_choices-loop-variant-init : goal.make_choices-loop-variant-init
make_choices-loop-variant-init t c =
    let node = c.args.node.now in
    let entries = cow_rest c.read_variants.new.out in
    let middle = c.read_variants.new.input.now in
    record {
      made = subst (λ ps. PayloadsTo (shapes_of (variant_shapes node)) (variant_contents node) c.args.count entries middle 0 middle (map (λ p. p.items) ps))
          (sym c.in_ok-payloads.ensures.items) (payloads_none (shapes_of (variant_shapes node)) (variant_contents node) c.args.count entries middle);
      len = c.in_ok-payloads.ensures.len;
      room = c.in_ok-payloads.ensures.capacity;
    }

pub make_choices-loop-variant-preserved : goal.make_choices-loop-variant-preserved
make_choices-loop-variant-preserved t c =
    let node = c.args.node.now in
    let ss = shapes_of (variant_shapes node) in
    let contents = variant_contents node in
    let entries = cow_rest c.read_variants.new.out in
    let middle = c.read_variants.new.input.now in
    let among = as_many_contents node ∙ c.requires.count in
    let here = there_below contents c.loop-variant.variant (subst (λ n. c.loop-variant.variant < n) (sym among) c.loop-variant-test.true) in
    let made = (rw (c.times-number.ensures, c.as_slice.ensures) at c.in_ok-make_payloads.ensures.made) here.0 here.1 in
    let more : map (λ p. p.items) c.push_reserved.new.self.items ≡ map (λ p. p.items) c.loop-variant.payloads.items ++ c.in_ok-make_payloads.field-0.items ∷ [] =
    ap (map (λ p. p.items)) c.push_reserved.ensures.items ∙ map-append (λ p. p.items) c.loop-variant.payloads.items (c.in_ok-make_payloads.field-0 ∷ []) in
    record {
      made = subst (PayloadsTo ss contents c.args.count entries middle (c.loop-variant.variant + 1) c.make_payloads.new.input.now) (sym more)
          (payloads_next ss contents c.args.count entries middle (count_shapes (variant_shapes node) ∙ c.requires.count) among c.loop-variant.variant
          c.loop-variant.input.now c.make_payloads.new.input.now (map (λ p. p.items) c.loop-variant.payloads.items) c.in_ok-make_payloads.field-0.items
          (c.loop-variant.variant + 1) (omega arith) c.loop-variant-test.true here.0 here.1 c.loop-variant.invariant.made made);
      len = omega (arith, c.push_reserved.ensures.len, c.loop-variant.invariant.len);
      room = omega (arith, c.push_reserved.ensures.capacity, c.loop-variant.invariant.room);
    }

pub make_choices-returns : goal.make_choices-returns
make_choices-returns t c =
    let node = c.args.node.now in
    let ss = shapes_of (variant_shapes node) in
    let contents = variant_contents node in
    let entries = cow_rest c.read_variants.new.out in
    let middle = c.read_variants.new.input.now in
    let among = as_many_contents node ∙ c.requires.count in
    let done = c.loop-variant.invariant.made in
    let end : c.loop-variant.variant ≡ c.args.count = omega (arith, c.loop-variant-test.false, c.loop-variant.auto.variant-end) in
    record {
      made = IfOk-weaker c.deal.result _ _
          (λ choices dealt.
          choices_made ss contents c.args.count entries middle (count_shapes (variant_shapes node) ∙ c.requires.count) among c.loop-variant.variant
          c.loop-variant.input.now (map (λ p. p.items) c.loop-variant.payloads.items) choices.items c.args.k c.args.input.now.now done
          (omega (arith, end)) (done.many ∙ end) (subst (λ n. All (λ v. v < n) entries) (sym among) c.in_ok-read_variants.ensures.read.spelled.known)
          c.in_ok-read_variants.ensures.read dealt)
          (rw c.as_slice-2.ensures at c.deal.ensures);
    }
