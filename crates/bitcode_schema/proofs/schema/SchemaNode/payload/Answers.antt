-- By the variant of the node.
use Rattle.std.proofs.Common.{◌≡◌, ◌<◌, ◌≤◌, Some, length, subst}
use Rattle.std.specs.Prelude.{slice_get}
use Rattle.bitcode_schema.specs.Reading.{variant_shapes}
use Rattle.bitcode_schema.proofs.NodeMakingLemmas.{content_found}
use Rattle.bitcode_schema.proofs.PartLemmas.{element, found-Enum, deeper-Enum, few_in-Enum, payload_there}
use Rattle.bitcode_schema.proofs.schema.SchemaNode.payload.Goals as goal

pub returns-in-Some-clause-found : goal.returns-in-Some-clause-found
returns-in-Some-clause-found c =
    let part = c.in-Some.variant.now in
    let look = c.in-Some.ensures.lookup.3 in
    let is = subst (λ xs. slice_get xs c.args.i ≡ Some part) c.deref-in-Enum.ensures.value
    (element c.deref-in-Enum.result.now c.args.i part look.0 (look.1 part)) in
    rw c.in-Enum.is (found-Enum c.in-Enum.variants c.args.i part is)

pub returns-in-Some-clause-deeper : goal.returns-in-Some-clause-deeper
returns-in-Some-clause-deeper c =
    let part = c.in-Some.variant.now in
    let look = c.in-Some.ensures.lookup.3 in
    let is = subst (λ xs. slice_get xs c.args.i ≡ Some part) c.deref-in-Enum.ensures.value
    (element c.deref-in-Enum.result.now c.args.i part look.0 (look.1 part)) in
    rw c.in-Enum.is (deeper-Enum c.in-Enum.variants c.args.i part is)

pub returns-in-Some-clause-few : goal.returns-in-Some-clause-few
returns-in-Some-clause-few c =
    let part = c.in-Some.variant.now in
    let look = c.in-Some.ensures.lookup.3 in
    let is = subst (λ xs. slice_get xs c.args.i ≡ Some part) c.deref-in-Enum.ensures.value
    (element c.deref-in-Enum.result.now c.args.i part look.0 (look.1 part)) in
    rw c.in-Enum.is (few_in-Enum c.in-Enum.variants c.args.i part is)

pub returns-in-None-clause-none : goal.returns-in-None-clause-none
returns-in-None-clause-none c =
    absurd (payload_there c.in-Enum.variants c.args.i (subst (λ n. c.args.i < length (variant_shapes n)) c.in-Enum.is c.requires)
    (subst (λ xs. length xs ≤ c.args.i) c.deref-in-Enum.ensures.value c.in-None.ensures.lookup.3))

pub returns-in-Some-clause-content : goal.returns-in-Some-clause-content
returns-in-Some-clause-content c =
    let part = c.in-Some.variant.now in
    let look = c.in-Some.ensures.lookup.3 in
    let is = subst (λ xs. slice_get xs c.args.i ≡ Some part) c.deref-in-Enum.ensures.value
    (element c.deref-in-Enum.result.now c.args.i part look.0 (look.1 part)) in
    rw c.in-Enum.is (content_found c.in-Enum.variants c.args.i part is)

pub returns-in-None-clause-unit : goal.returns-in-None-clause-unit
returns-in-None-clause-unit c =
    absurd (payload_there c.in-Enum.variants c.args.i (subst (λ n. c.args.i < length (variant_shapes n)) c.in-Enum.is c.requires)
    (subst (λ xs. length xs ≤ c.args.i) c.deref-in-Enum.ensures.value c.in-None.ensures.lookup.3))
