-- A struct or a tuple has the listings and the columns of its fields in nested pairs, and its data are data of them. So
-- the laws of its encoder follow from those of the encoder of the pairs.
use Rattle.std.specs.Prelude.{◌≡◌, ℕ, []}
use Rattle.std.proofs.Common.{refl, subst, sym, ap, ◌∙◌}
use Rattle.std.proofs.lemmas.List.Elements.{All-weaker}
use Rattle.bitcode_shapes.specs.Datum.{Datum}
use Rattle.bitcode_shapes.specs.Shape.{Shape, IsOf}
use Rattle.bitcode_shapes.specs.Pairs.{ListsPair}
use Rattle.bitcode_coder.specs.Columns.{Columns, CountsFit, beside, emptied}
use Rattle.bitcode_coder.specs.Coder.{written_columns, SurelyOverflows}

module _ (s t : Shape) (same : written_columns s ≡ written_columns t) (columns : Columns) where
  pub struct_of_shape : emptied columns ≡ written_columns s [] → emptied columns ≡ written_columns t []
  struct_of_shape of_shape = of_shape ∙ ap (λ of. of []) same

  pub struct_surely : ((d : Datum) → IsOf t d → IsOf s d) → (n : ℕ) → SurelyOverflows s columns n → SurelyOverflows t columns n
  struct_surely of_fields n surely ds each size fits =
      surely ds (All-weaker (IsOf t) (IsOf s) of_fields ds each) size (subst (λ of. CountsFit (beside columns (of ds))) (sym same) fits)

-- the listings of a pair follow from those of both halves
listed_pair : {A B C D : Type 0} {lists_a : A → Datum → Type 0} {lists_b : B → Datum → Type 0} {lists_c : C → Datum → Type 0} {lists_d : D → Datum → Type 0}
    {x : A × B} {y : C × D} → ((d : Datum) → lists_a x.0 d → lists_c y.0 d) → ((d : Datum) → lists_b x.1 d → lists_d y.1 d)
    → (d : Datum) → ListsPair lists_a lists_b x d → ListsPair lists_c lists_d y d
listed_pair first second d h = record {
  first = h.first;
  second = h.second;
  is = h.is;
  lists_first = first h.first h.lists_first;
  lists_second = second h.second h.lists_second;
}

-- ---- both list the same data

pub record SameListings (first second : Datum → Type 0) : Type 0 where
  pub to : (d : Datum) → first d → second d
  pub from : (d : Datum) → second d → first d

pub field_alike : {lists : Datum → Type 0} → SameListings lists lists
field_alike = record { to = λ d h. h; from = λ d h. h }

pub pair_alike : {A B C D : Type 0} {lists_a : A → Datum → Type 0} {lists_b : B → Datum → Type 0} {lists_c : C → Datum → Type 0} {lists_d : D → Datum → Type 0}
    {x : A × B} {y : C × D} → SameListings (lists_a x.0) (lists_c y.0) → SameListings (lists_b x.1) (lists_d y.1)
    → SameListings (ListsPair lists_a lists_b x) (ListsPair lists_c lists_d y)
pair_alike first second = record { to = listed_pair first.to second.to; from = listed_pair first.from second.from }
