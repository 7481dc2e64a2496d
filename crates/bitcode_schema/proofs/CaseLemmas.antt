-- What a value of each case holds.
use Rattle.std.proofs.Common.{◌≡◌, ℕ, Option, Some, None, Box, Vec, Global, refl, sym, ap, ◌∙◌}
use Rattle.bitcode_untyped.specs.declared.value.Value.{Value, out-Value}
use Rattle.bitcode_untyped.specs.declared.value.Value.TheOpen.{Value-F}
use Rattle.bitcode_untyped.specs.declared.value.Value.TheViews.{roll-Value, out-roll-Value, roll-out-Value}
use Rattle.bitcode_untyped.specs.declared.value.Value.TheVariants as value
use Rattle.bitcode_schema.specs.Views.{seq_items, map_pairs, tuple_fields, elements_of, pairs_of, fields_of, option_of, enum_of, boxed}
use Rattle.bitcode_schema.specs.Views.{option_held as held_by_option, enum_held as held_by_enum}

pub out_of : (layer : Value-F Value) (v : Value) → roll-Value layer ≡ v → out-Value v ≡ layer
out_of layer v is = ap out-Value (sym is) ∙ out-roll-Value layer

pub made_of : (layer : Value-F Value) (v : Value) → out-Value v ≡ layer → v ≡ roll-Value layer
made_of layer v is = sym (roll-out-Value v) ∙ ap roll-Value is

pub elements_held : (v : Value) (vs : Vec Value Global) → v ≡ value.Seq vs → elements_of v ≡ Some vs.items
elements_held v vs is = ap seq_items (out_of (Value-F.Seq vs) v (value.rolls-Seq vs ∙ sym is))

pub elements_none : (v : Value) → ((vs : Vec Value Global) → v ≡ value.Seq vs → ⊥) → elements_of v ≡ None
elements_none v other = at (out-Value v) refl
  where
    at : (w : Value-F Value) → out-Value v ≡ w → seq_items w ≡ None
    at (Value-F.Seq vs) is = absurd (other vs (made_of (Value-F.Seq vs) v is ∙ value.rolls-Seq vs))
    at _ is = refl

pub pairs_held : (v : Value) (ps : Vec (Value × Value) Global) → v ≡ value.Map ps → pairs_of v ≡ Some ps.items
pairs_held v ps is = ap map_pairs (out_of (Value-F.Map ps) v (value.rolls-Map ps ∙ sym is))

pub pairs_none : (v : Value) → ((ps : Vec (Value × Value) Global) → v ≡ value.Map ps → ⊥) → pairs_of v ≡ None
pairs_none v other = at (out-Value v) refl
  where
    at : (w : Value-F Value) → out-Value v ≡ w → map_pairs w ≡ None
    at (Value-F.Map ps) is = absurd (other ps (made_of (Value-F.Map ps) v is ∙ value.rolls-Map ps))
    at _ is = refl

pub fields_held : (v : Value) (vs : Vec Value Global) → v ≡ value.Tuple vs → fields_of v ≡ Some vs.items
fields_held v vs is = ap tuple_fields (out_of (Value-F.Tuple vs) v (value.rolls-Tuple vs ∙ sym is))

pub fields_none : (v : Value) → ((vs : Vec Value Global) → v ≡ value.Tuple vs → ⊥) → fields_of v ≡ None
fields_none v other = at (out-Value v) refl
  where
    at : (w : Value-F Value) → out-Value v ≡ w → tuple_fields w ≡ None
    at (Value-F.Tuple vs) is = absurd (other vs (made_of (Value-F.Tuple vs) v is ∙ value.rolls-Tuple vs))
    at _ is = refl

pub option_held : (v : Value) (o : Option (Box Value Global)) → v ≡ value.Option o → option_of v ≡ Some (boxed o)
option_held v o is = ap held_by_option (out_of (Value-F.Option o) v (value.rolls-Option o ∙ sym is))

pub option_none : (v : Value) → ((o : Option (Box Value Global)) → v ≡ value.Option o → ⊥) → option_of v ≡ None
option_none v other = at (out-Value v) refl
  where
    at : (w : Value-F Value) → out-Value v ≡ w → held_by_option w ≡ None
    at (Value-F.Option o) is = absurd (other o (made_of (Value-F.Option o) v is ∙ value.rolls-Option o))
    at _ is = refl

pub enum_held : (v : Value) (i : ℕ) (p : Box Value Global) → v ≡ value.Enum i p → enum_of v ≡ Some (i, p.value)
enum_held v i p is = ap held_by_enum (out_of (Value-F.Enum i p) v (value.rolls-Enum i p ∙ sym is))

pub enum_none : (v : Value) → ((i : ℕ) (p : Box Value Global) → v ≡ value.Enum i p → ⊥) → enum_of v ≡ None
enum_none v other = at (out-Value v) refl
  where
    at : (w : Value-F Value) → out-Value v ≡ w → held_by_enum w ≡ None
    at (Value-F.Enum i p) is = absurd (other i p (made_of (Value-F.Enum i p) v is ∙ value.rolls-Enum i p))
    at _ is = refl
