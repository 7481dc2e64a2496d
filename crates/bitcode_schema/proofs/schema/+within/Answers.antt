-- By the variant, and part by part.
use Rattle.std.proofs.Common.{◌∙◌, ◌-◌, ◌<◌, ap, sym, map, arith}
use Rattle.std.specs.Prelude.{nat_le}
use Rattle.std.specs.List.{list_all}
use Rattle.std.proofs.lemmas.List.Folds.{list_all-map}
use Rattle.bitcode_schema.specs.Depth.{depth}
use Rattle.bitcode_schema.proofs.NodeLemmas.{depth-Tuple, depth-Struct, depth-Enum, all_within}
use Rattle.bitcode_schema.proofs.schema.+within.Goals as goal

pub SchemaNode::is_within-returns-in-Tuple : goal.SchemaNode::is_within-returns-in-Tuple
SchemaNode::is_within-returns-in-Tuple t c =
    let left = c.args.left in
    let items = c.in-Tuple.fields.items in
    let some : 0 < left = omega (arith, c.if-left-eq0.false) in
    rw (c.in-Tuple.is, depth-Tuple c.in-Tuple.fields)
    (c.all_within.ensures
    ∙ ap (list_all (λ n. nat_le (depth n) (left - 1))) c.deref-in-Tuple.ensures.value
    ∙ sym (all_within (map depth items) left some ∙ list_all-map (λ n. nat_le n (left - 1)) depth items))

pub SchemaNode::is_within-returns-in-Struct : goal.SchemaNode::is_within-returns-in-Struct
SchemaNode::is_within-returns-in-Struct t c =
    let left = c.args.left in
    let items = c.in-Struct.fields.items in
    let some : 0 < left = omega (arith, c.if-left-eq0.false) in
    rw (c.in-Struct.is, depth-Struct c.in-Struct.fields)
    (c.parts_within.ensures
    ∙ ap (list_all (λ p. nat_le (depth p.1) (left - 1))) c.deref-in-Struct.ensures.value
    ∙ sym (all_within (map (λ p. depth p.1) items) left some ∙ list_all-map (λ n. nat_le n (left - 1)) (λ p. depth p.1) items))

pub SchemaNode::is_within-returns-in-Enum : goal.SchemaNode::is_within-returns-in-Enum
SchemaNode::is_within-returns-in-Enum t c =
    let left = c.args.left in
    let items = c.in-Enum.variants.items in
    let some : 0 < left = omega (arith, c.if-left-eq0.false) in
    rw (c.in-Enum.is, depth-Enum c.in-Enum.variants)
    (c.parts_within-in-Enum.ensures
    ∙ ap (list_all (λ p. nat_le (depth p.1) (left - 1))) c.deref-in-Enum.ensures.value
    ∙ sym (all_within (map (λ p. depth p.1) items) left some ∙ list_all-map (λ n. nat_le n (left - 1)) (λ p. depth p.1) items))
