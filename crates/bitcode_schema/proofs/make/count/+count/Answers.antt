-- By the variant of the node; lengths and variants first, and then what they are of.
use Rattle.std.proofs.Common.{rules, ◌≡◌, ◌+◌, ◌∙◌, ◌≤◌, ◌<◌, ◌*◌, ◌^◌, sym, subst, length, false, None, arith}
use Rattle.std.proofs.lemmas.Bool.{false≢true}
use Rattle.bitcode_memory.specs.Fast.{cow_rest}
use Rattle.bitcode_shapes.specs.Shape.{IsOf, pair_shape, unit_shape}
use Rattle.bitcode_schema.specs.Forms.{shape_of, shapes_of}
use Rattle.bitcode_schema.specs.Reading.{fields_of, variant_shapes}
use Rattle.bitcode_schema.proofs.ChoiceLemmas.{count_shapes}
use Rattle.bitcode_schema.proofs.CountedLemmas.{id_nodes, unit_node, counts_each, counts_lists, counts_arrays, counts_pairs, counts_maps, counted_none, counted_next, counts_choices}
use Rattle.bitcode_schema.proofs.FieldLemmas.{range_pair, one_field, no_fields}
use Rattle.bitcode_schema.proofs.PartLemmas.{few_payloads}
use Rattle.bitcode_schema.proofs.ShapeLemmas.{length-Enum, shape-Uuid, shape-Tuple, shape-Struct, shape-Enum}
use Rattle.bitcode_schema.proofs.make.count.+count.Goals as goal

pub count-returns-in-Uuid : goal.count-returns-in-Uuid
count-returns-in-Uuid t c = record {
  counted = rw c.in-Uuid.is ((rw c.in-Uuid.is at c.count_leaves-in-Uuid.ensures.counted) (λ d is. id_nodes d (subst (λ s. IsOf s d) shape-Uuid is)));
}

pub count-returns-in-Tuple : goal.count-returns-in-Tuple
count-returns-in-Tuple t c = record { counted = rw (c.in-Tuple.is, shape-Tuple c.in-Tuple._fields) (rw c.in-Tuple.is at c.count_tuples.ensures.counted) }

pub count-returns-in-Struct : goal.count-returns-in-Struct
count-returns-in-Struct t c = record {
  counted = rw (c.in-Struct.is, shape-Struct c.in-Struct._fields) (rw c.in-Struct.is at c.count_tuples-in-Struct.ensures.counted);
}

pub count-returns-in-Enum : goal.count-returns-in-Enum
count-returns-in-Enum t c = record { counted = rw (c.in-Enum.is, shape-Enum c.in-Enum.variants) (rw c.in-Enum.is at c.count_enum.ensures.counted) }

pub count_lists-returns : goal.count_lists-returns
count_lists-returns t c = record {
  counted =
      counts_lists c.args.k _ _ _ c.args.capacity (shape_of c.args.element.now) _ _ c.in_ok-elements.elements c.in_ok-lengths.ensures.read
      (rw (c.length.ensures, c.in_ok-lengths.ensures.sum) at c.in_ok-elements.ensures.counted) (omega (arith, c.saturating_add.ensures));
}

pub count_maps-returns : goal.count_maps-returns
count_maps-returns t c =
    let keys = rw (c.length-pairs.ensures, c.in_ok-lengths.ensures.sum) at c.in_ok-keys.ensures.counted in
    let values = rw (c.length-pairs.ensures, c.in_ok-lengths.ensures.sum) at c.in_ok-values.ensures.counted in
    record {
      counted =
          counts_maps c.args.k _ _ _ (shape_of c.args.key.now) (shape_of c.args.value.now)
          (counts_lists c.args.k _ _ _ None (pair_shape (shape_of c.args.key.now) (shape_of c.args.value.now)) _ _ c.saturating_add-inside.result
          c.in_ok-lengths.ensures.read
          (counts_pairs _ _ _ _ (shape_of c.args.key.now) (shape_of c.args.value.now) _ c.in_ok-keys.keys c.in_ok-values.values keys values
          (omega (arith, c.saturating_add-inside.ensures, c.saturating_add.ensures, c.length-pairs.ensures, c.in_ok-lengths.ensures.sum)))
          (omega (arith, c.saturating_add-2.ensures)));
    }

pub count_arrays-returns : goal.count_arrays-returns
count_arrays-returns t c =
    let few : c.args.k * c.args.size < 2 ^ 64 =
    (let over : 2 ^ 64 ≤ c.args.k * c.args.size → ⊥ = λ many. false≢true (c.in_ok-number.ensures.refused.1 many) in omega arith) in
    record {
      counted =
          counts_arrays c.args.k _ _ _ c.args.size (shape_of c.args.element.now) c.in_ok-elements.elements few
          (rw c.in_ok-number.ensures.product at c.in_ok-elements.ensures.counted) (omega (arith, c.saturating_add.ensures));
    }

pub count_tuples-returns-then-fields-eq0 : goal.count_tuples-returns-then-fields-eq0
count_tuples-returns-then-fields-eq0 t c = record {
  counted = rw (no_fields (fields_of c.args.node.now) (sym c.field_count-fields.ensures ∙ c.if-fields-eq0.true))
      (counts_each c.args.k _ _ c.args.k unit_shape 1 false _ c.in_ok-read_leaf.ensures.read unit_node (omega arith));
}

pub count_fields-returns-then-fields-gt1 : goal.count_fields-returns-then-fields-gt1
count_fields-returns-then-fields-gt1 t c = record {
  counted = rw (range_pair (fields_of c.args.node.now) c.args.from c.args.to c.if-fields-gt1.true c.requires.range.1)
      (counts_pairs c.args.k _ _ _ _ _ _ c.in_ok-first.first c.in_ok-second.second c.in_ok-first.ensures.counted c.in_ok-second.ensures.counted
      (omega (arith, c.saturating_add.ensures, c.saturating_add-then-fields-gt1.ensures)));
}

pub count_fields-returns : goal.count_fields-returns
count_fields-returns t c = record {
  counted = rw (one_field (fields_of c.args.node.now) c.args.from c.args.to c.in-Some.field.now (omega (arith, c.if-fields-gt1.false, c.requires.range)) c.in-Some.ensures.found)
      c.count.ensures.counted;
}

pub count_payloads-returns-in_ok-read_leaf-in-None : goal.count_payloads-returns-in_ok-read_leaf-in-None
count_payloads-returns-in_ok-read_leaf-in-None t c = record {
  counted = rw c.in-None.ensures.none (counts_each c.args.k _ _ c.args.k unit_shape 1 false _ c.in_ok-read_leaf-in-None.ensures.read unit_node (omega arith));
}

pub count_choices-loop-variant-init : goal.count_choices-loop-variant-init
count_choices-loop-variant-init t c =
    counted_none (shapes_of (variant_shapes c.args.node.now)) c.args.variants (cow_rest c.read_variants.new.out) c.read_variants.new.input.now c.args.k
    (sym c.in_ok-read_variants.ensures.read.size)

pub count_choices-loop-variant-preserved : goal.count_choices-loop-variant-preserved
count_choices-loop-variant-preserved t c =
    counted_next (shapes_of (variant_shapes c.args.node.now)) c.args.variants (cow_rest c.read_variants.new.out) c.read_variants.new.input.now
    (count_shapes (variant_shapes c.args.node.now) ∙ c.requires.count) c.loop-variant.variant (c.loop-variant.variant + 1) c.loop-variant.input.now
    c.count_payloads.new.input.now c.loop-variant.nodes c.in_ok-payloads.payloads c.saturating_add-nodes.result (omega arith) c.loop-variant-test.true
    c.loop-variant.invariant (rw (c.times-number.ensures, c.as_slice.ensures) at c.in_ok-payloads.ensures.counted) (omega (arith, c.saturating_add-nodes.ensures))

pub count_choices-returns : goal.count_choices-returns
count_choices-returns t c = record {
  counted =
      counts_choices (shapes_of (variant_shapes c.args.node.now)) c.args.variants (cow_rest c.read_variants.new.out) c.read_variants.new.input.now
      (count_shapes (variant_shapes c.args.node.now) ∙ c.requires.count) c.loop-variant.variant c.loop-variant.input.now c.loop-variant.nodes c.args.k
      c.args.input.now.now c.loop-variant.invariant (omega (arith, c.loop-variant-test.false)) c.in_ok-read_variants.ensures.read.spelled.known
      c.in_ok-read_variants.ensures.read;
}

pub count-count_enum-requires : goal.count-count_enum-requires
count-count_enum-requires t c =
    let most : c.len.result ≤ 256 =
    (let few = few_payloads c.in-Enum.variants (rw c.in-Enum.is at c.requires.few) in omega (arith, few, c.len.ensures, c.in-Enum.variants.ok.0)) in
    let count : length (variant_shapes c.args.node.now) ≡ c.len.result =
    rw c.in-Enum.is (let e = length-Enum c.in-Enum.variants in omega (arith, e, c.len.ensures, c.in-Enum.variants.ok.0)) in
    (search rules, (c.requires.few, (most, count)))

pub count_enum-count_payloads-requires : goal.count_enum-count_payloads-requires
count_enum-count_payloads-requires t c = (search rules, (c.requires.few, omega (arith, c.requires.count, c.if-variants-eq1.true)))

pub count_enum-count_choices-requires : goal.count_enum-count_choices-requires
count_enum-count_choices-requires t c =
    (search rules, (c.requires.few, ((omega (arith, c.if-variants-eq0.false, c.if-variants-eq1.false), c.requires.most), c.requires.count)))
