-- Units have no column.
use Rattle.std.proofs.Common.{◌≡◌, ℕ, Option, Some, None, List, [], ◌∷◌, map, All, refl, sym, ap, ◌∙◌, append-nil}
use Rattle.std.proofs.lemmas.List.Elements.{All-nil, All-cons, All-head, All-tail}
use Rattle.bitcode_shapes.specs.Datum.{Datum, unit}
use Rattle.bitcode_shapes.specs.Shape.{IsOf, unit_shape}
use Rattle.bitcode_untyped.specs.declared.value.Value.{Value, out-Value}
use Rattle.bitcode_untyped.specs.declared.value.Value.TheOpen.{Value-F}
use Rattle.bitcode_untyped.specs.declared.value.Value.TheVariants as value
use Rattle.bitcode_schema.specs.Parts.{unit_content}
use Rattle.bitcode_schema.specs.Views.{Hold}
use Rattle.bitcode_schema.specs.Writing.{Writes}
use Rattle.bitcode_schema.proofs.CaseLemmas.{out_of, made_of}

pub unit_held : (v : Value) → v ≡ value.Unit → unit_content (out-Value v) ≡ Some unit
unit_held v is = ap unit_content (out_of Value-F.Unit v (value.rolls-Unit ∙ sym is))

pub unit_none : (v : Value) → (v ≡ value.Unit → ⊥) → unit_content (out-Value v) ≡ None
unit_none v other = at (out-Value v) refl
  where
    at : (w : Value-F Value) → out-Value v ≡ w → unit_content w ≡ None
    at Value-F.Unit is = absurd (other (made_of Value-F.Unit v is ∙ value.rolls-Unit))
    at _ is = refl

-- items whose datum is the unit
module _ {A : Type 0} (content : A → Option Datum) where
  units_held : (xs : List A) → All (λ x. content x ≡ Some unit) xs → Hold content xs (map (λ x. unit) xs)
  units_held [] each = tt
  units_held (x ∷ xs) each = (All-head (λ y. content y ≡ Some unit) x xs each, units_held xs (All-tail (λ y. content y ≡ Some unit) x xs each))

  units_are : (xs : List A) → All (IsOf unit_shape) (map (λ x. unit) xs)
  units_are [] = All-nil (IsOf unit_shape)
  units_are (x ∷ xs) = All-cons (IsOf unit_shape) unit (map (λ y. unit) xs) refl (units_are xs)

  pub units_written : (xs : List A) (old : List ℕ) → All (λ x. content x ≡ Some unit) xs → Writes content unit_shape xs old old
  units_written xs old each = record {
    contents = map (λ x. unit) xs;
    are = record { held = units_held xs each; of_shape = units_are xs };
    counts = tt;
    written = sym (append-nil old);
  }
