-- Worked rows: which tables a shape may have, what is of a shape, why a value is not, and the limit on what has no column.
use Rattle.std.proofs.Common.{refl, arith, ap, sym, ◌∙◌, ◌≤◌, ◌<◌, ◌≡◌}
use Rattle.std.proofs.lemmas.List.Sums.{AllPass-from_list_all, list_all-from_AllPass}
use Rattle.std.specs.Prelude.{ℕ, Bool, true, false, ◌&&◌, nat_lt, List, [], ◌∷◌, map, replicate, slice_get}
use Rattle.std.proofs.lemmas.Bool.{false≢true}
use Rattle.std.specs.List.{list_all, AllByRecursion}
use Rattle.std.specs.declared.alloc.Global.{Global}
use Rattle.std.specs.declared.boxed.Box.{Box}
use Rattle.std.specs.declared.vec.Vec.{Vec}
use Rattle.bitcode_memory.specs.declared.error.Reason.TheVariants.{TooManyVariants, NotOfTheShape, NestedTooDeep}
use Rattle.bitcode_shapes.specs.Datum.{Datum, unit, list, tuple, choice, data_of, elements_in}
use Rattle.bitcode_coder.specs.Spelling.{natural}
use Rattle.bitcode_untyped.specs.ShapeTree.{IsOf, unit_tree, seq_tree, tuple_tree, choice_tree, bool_tree, char_tree, option_tree}
use Rattle.bitcode_untyped.specs.View.{trees_of}
use Rattle.bitcode_untyped.specs.Bounds.{IsLimited}
use Rattle.bitcode_untyped.specs.Faults.{Judge, faults_of_variant, faults_by, faults_at, too_deep, nowhere}
use Rattle.bitcode_untyped.specs.References.{refers_step, refers_soundly, IsSoundTable}
use Rattle.bitcode_untyped.specs.declared.value.Value.TheOpen.{Value-F}
use Rattle.bitcode_untyped.specs.declared.shape.ShapeNode.{ShapeNode}
use Rattle.bitcode_untyped.specs.declared.shape.ShapeNode.TheViews.{roll-ShapeNode}
use Rattle.bitcode_untyped.specs.declared.shape.ShapeNode.TheFolds.{fold-roll-ShapeNode}
use Rattle.bitcode_untyped.specs.declared.shape.ShapeNode.TheOpen.{ShapeNode-F}

-- ---- tables: a reference needs an option, list, map or enum above it in its entry, and an entry that it leads to

bare_reference : refers_step 1 (ShapeNode-F.Ref 0) false ≡ false
bare_reference = refl

reference_below_an_option : refers_step 1 (ShapeNode-F.Ref 0) true ≡ true
reference_below_an_option = refl

reference_out_of_the_table : refers_step 1 (ShapeNode-F.Ref 1) true ≡ false
reference_out_of_the_table = refl

abbrev ref : ℕ → ShapeNode
ref i = roll-ShapeNode (ShapeNode-F.Ref i)

abbrev seq_of : Box ShapeNode Global → ShapeNode
seq_of inside = roll-ShapeNode (ShapeNode-F.Seq inside)

abbrev tuple_of : Vec ShapeNode Global → ShapeNode
tuple_of inside = roll-ShapeNode (ShapeNode-F.Tuple inside)

ref_refers : (count i : ℕ) (below : Bool) → refers_soundly count (ref i) below ≡ below && nat_lt i count
ref_refers count i below = ap (λ f. f below) (fold-roll-ShapeNode (Bool → Bool) (refers_step count) (ShapeNode-F.Ref i))

seq_refers : (count i : ℕ) (inside : Box ShapeNode Global) → inside.value ≡ ref i → refers_soundly count (seq_of inside) false ≡ nat_lt i count
seq_refers count i inside is =
    ap (λ f. f false) (fold-roll-ShapeNode (Bool → Bool) (refers_step count) (ShapeNode-F.Seq inside))
    ∙ ap (λ node. refers_soundly count node true) is
    ∙ ref_refers count i true

tuple_refers : (count i : ℕ) (inside : Vec ShapeNode Global) → inside.items ≡ ref i ∷ [] → refers_soundly count (tuple_of inside) false ≡ false
tuple_refers count i inside is =
    ap (λ f. f false) (fold-roll-ShapeNode (Bool → Bool) (refers_step count) (ShapeNode-F.Tuple inside))
    ∙ ap (λ nodes. list_all (λ node. node false) (map (refers_soundly count) nodes)) is
    ∙ ap (λ b. b && true) (ref_refers count i false)

accepted : (node : ShapeNode) → refers_soundly 1 node false ≡ true → IsSoundTable (node ∷ []) 0
accepted node sound = record {
  root_in = omega arith;
  entries = AllPass-from_list_all (λ n. refers_soundly 1 n false) (node ∷ []) (ap (λ b. b && true) sound);
}

refused : (node : ShapeNode) → refers_soundly 1 node false ≡ false → IsSoundTable (node ∷ []) 0 → ⊥
refused node unsound h =
    false≢true (sym (ap (λ b. b && true) unsound) ∙ list_all-from_AllPass (λ n. refers_soundly 1 n false) (node ∷ []) h.entries)

-- [Ref 0]
reference_to_itself : IsSoundTable (ref 0 ∷ []) 0 → ⊥
reference_to_itself = refused (ref 0) (ref_refers 1 0 false)

-- [Tuple(Ref 0)]
tuple_of_itself : (inside : Vec ShapeNode Global) → inside.items ≡ ref 0 ∷ [] → IsSoundTable (tuple_of inside ∷ []) 0 → ⊥
tuple_of_itself inside is = refused (tuple_of inside) (tuple_refers 1 0 inside is)

-- [Seq(Ref 1)]
list_of_what_is_not_there : (inside : Box ShapeNode Global) → inside.value ≡ ref 1 → IsSoundTable (seq_of inside ∷ []) 0 → ⊥
list_of_what_is_not_there inside is = refused (seq_of inside) (seq_refers 1 1 inside is)

-- [Seq(Ref 0)]
list_of_itself : (inside : Box ShapeNode Global) → inside.value ≡ ref 0 → IsSoundTable (seq_of inside ∷ []) 0
list_of_itself inside is = accepted (seq_of inside) (seq_refers 1 0 inside is)

-- [Unit], with root 1
root_out_of_the_table : IsSoundTable (roll-ShapeNode ShapeNode-F.Unit ∷ []) 1 → ⊥
root_out_of_the_table h = let inside : 1 < 1 = h.root_in in omega (arith, inside)

-- ---- what is not of a shape

no_surrogate : IsOf char_tree (natural 55296) → ⊥
no_surrogate h = false≢true h.1

no_third_variant_of_an_option : IsOf (option_tree bool_tree) (choice 2 (natural 1)) → ⊥
no_third_variant_of_an_option h = h.2

no_sixth_variant_of_two : IsOf (choice_tree (trees_of (unit_tree ∷ unit_tree ∷ []))) (choice 5 unit) → ⊥
no_sixth_variant_of_two h = h.2

nothing_of_no_variants : (d : Datum) → IsOf (choice_tree (trees_of [])) d → ⊥
nothing_of_no_variants d h = h.2

no_index_over_a_byte : IsOf (choice_tree (trees_of (replicate 300 unit_tree))) (choice 256 unit) → ⊥
no_index_over_a_byte h = omega (arith, h.1)

no_field_too_few : IsOf (tuple_tree (trees_of (bool_tree ∷ []))) (tuple (data_of [])) → ⊥
no_field_too_few h = h.1

-- ---- why a value is not of a shape

another_case : (left : ℕ) → faults_by (Value-F.U8 1) left ShapeNode-F.Bool ≡ NotOfTheShape ∷ []
another_case left = refl

index_over_a_byte : (left : ℕ) (judge : Box Judge Global) (nodes : Vec ShapeNode Global)
    → faults_by (Value-F.Enum 256 judge) left (ShapeNode-F.Enum nodes) ≡ TooManyVariants ∷ []
index_over_a_byte left judge nodes = refl

sixth_variant_of_two : (left : ℕ) (judge : Box Judge Global) (nodes : Vec ShapeNode Global) (first second : ShapeNode)
    → nodes.items ≡ first ∷ second ∷ [] → faults_by (Value-F.Enum 5 judge) left (ShapeNode-F.Enum nodes) ≡ NotOfTheShape ∷ []
sixth_variant_of_two left judge nodes first second is = ap (λ ns. faults_of_variant judge.value left (slice_get ns 5)) is

past_the_references : (value : Value-F Judge) → faults_at value too_deep ≡ NestedTooDeep ∷ []
past_the_references value = refl

out_of_the_table : (value : Value-F Judge) → faults_at value nowhere ≡ NotOfTheShape ∷ []
out_of_the_table value = refl

-- ---- elements without a column: 65536 in one list are read, and one more is not

abbrev units : ℕ → Datum
units count = list (data_of (replicate count unit))

each_unit : (ds : List Datum) → AllByRecursion (IsLimited unit_tree) ds
each_unit [] = tt
each_unit (d ∷ ds) = (tt, each_unit ds)

at_the_limit : IsLimited (seq_tree unit_tree) (units 65536)
at_the_limit = ((λ free. omega arith), each_unit (elements_in (units 65536)))

past_the_limit : IsLimited (seq_tree unit_tree) (units 65537) → ⊥
past_the_limit h = let within : 65537 ≤ 65536 = h.0 refl in omega (arith, within)

-- each list has the limit, and not the first alone
past_the_limit_later : IsLimited (seq_tree (seq_tree unit_tree)) (list (data_of (units 0 ∷ units 65537 ∷ []))) → ⊥
past_the_limit_later h = past_the_limit h.1.1.0
