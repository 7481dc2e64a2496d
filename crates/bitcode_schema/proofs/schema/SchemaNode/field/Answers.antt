-- By the variant of the node.
use Rattle.std.proofs.Common.{◌≡◌, ◌≤◌, Some, length, subst}
use Rattle.std.specs.Prelude.{slice_get}
use Rattle.bitcode_schema.proofs.PartLemmas.{element, found-Tuple, deeper-Tuple, few_in-Tuple, found-Struct, deeper-Struct, few_in-Struct, field_there}
use Rattle.bitcode_schema.proofs.schema.SchemaNode.field.Goals as goal

pub returns-in-Some-clause-found : goal.returns-in-Some-clause-found
returns-in-Some-clause-found c =
    let field = c.in-Some.field.now in
    let look = c.in-Some.ensures.lookup.3 in
    let is = subst (λ xs. slice_get xs c.args.i ≡ Some field) c.deref.ensures.value (element c.deref.result.now c.args.i field look.0 (look.1 field)) in
    rw c.in-Tuple.is (found-Tuple c.in-Tuple.fields c.args.i field is)

pub returns-in-Some-clause-deeper : goal.returns-in-Some-clause-deeper
returns-in-Some-clause-deeper c =
    let field = c.in-Some.field.now in
    let look = c.in-Some.ensures.lookup.3 in
    let is = subst (λ xs. slice_get xs c.args.i ≡ Some field) c.deref.ensures.value (element c.deref.result.now c.args.i field look.0 (look.1 field)) in
    rw c.in-Tuple.is (deeper-Tuple c.in-Tuple.fields c.args.i field is)

pub returns-in-Some-clause-few : goal.returns-in-Some-clause-few
returns-in-Some-clause-few c =
    let field = c.in-Some.field.now in
    let look = c.in-Some.ensures.lookup.3 in
    let is = subst (λ xs. slice_get xs c.args.i ≡ Some field) c.deref.ensures.value (element c.deref.result.now c.args.i field look.0 (look.1 field)) in
    rw c.in-Tuple.is (few_in-Tuple c.in-Tuple.fields c.args.i field is)

pub returns-in-Some-get-clause-found : goal.returns-in-Some-get-clause-found
returns-in-Some-get-clause-found c =
    let field = c.in-Some-get.field.now in
    let look = c.in-Some-get.ensures.lookup.3 in
    let is = subst (λ xs. slice_get xs c.args.i ≡ Some field) c.deref-in-Struct.ensures.value (element c.deref-in-Struct.result.now c.args.i field look.0 (look.1 field)) in
    rw c.in-Struct.is (found-Struct c.in-Struct.fields c.args.i field is)

pub returns-in-Some-get-clause-deeper : goal.returns-in-Some-get-clause-deeper
returns-in-Some-get-clause-deeper c =
    let field = c.in-Some-get.field.now in
    let look = c.in-Some-get.ensures.lookup.3 in
    let is = subst (λ xs. slice_get xs c.args.i ≡ Some field) c.deref-in-Struct.ensures.value (element c.deref-in-Struct.result.now c.args.i field look.0 (look.1 field)) in
    rw c.in-Struct.is (deeper-Struct c.in-Struct.fields c.args.i field is)

pub returns-in-Some-get-clause-few : goal.returns-in-Some-get-clause-few
returns-in-Some-get-clause-few c =
    let field = c.in-Some-get.field.now in
    let look = c.in-Some-get.ensures.lookup.3 in
    let is = subst (λ xs. slice_get xs c.args.i ≡ Some field) c.deref-in-Struct.ensures.value (element c.deref-in-Struct.result.now c.args.i field look.0 (look.1 field)) in
    rw c.in-Struct.is (few_in-Struct c.in-Struct.fields c.args.i field is)

pub returns-in-None-get-clause-there : goal.returns-in-None-get-clause-there
returns-in-None-get-clause-there c = λ below.
    absurd (field_there c.in-Struct.fields c.args.i (rw c.in-Struct.is at below)
    (subst (λ xs. length xs ≤ c.args.i) c.deref-in-Struct.ensures.value c.in-None-get.ensures.lookup.3))
