-- Values whose node allows only some entries of its column.
use Rattle.std.proofs.Common.{◌≡◌, ◌<◌, ◌≤◌, ℕ, zero, suc, Bool, Option, Some, None, List, [], ◌∷◌, length, map, get_or, All, sym, ap, subst, ◌∙◌, arith}
use Rattle.std.proofs.lemmas.List.Elements.{All-nil, All-cons, All-head, All-tail}
use Rattle.bitcode_coder.specs.Columns.{texts}
use Rattle.bitcode_shapes.specs.Datum.{Datum, number_in, text_in}
use Rattle.bitcode_shapes.specs.Ints.{int_shape}
use Rattle.bitcode_shapes.specs.Shape.{Shape, Allowed, IsOf, IsAllowed, number_shape, text_shape}
use Rattle.bitcode_untyped.specs.Leaves.{Leaf, leaf_of}
use Rattle.bitcode_untyped.specs.declared.value.Value.{Value}
use Rattle.bitcode_schema.specs.Allowing.{AsEntry, IsShort}
use Rattle.bitcode_schema.specs.Forms.{leaf_content}
use Rattle.bitcode_schema.specs.Views.{Hold}
use Rattle.bitcode_schema.specs.Writing.{AreOf, Writes, HasStranger}

-- one value has no datum of the shape
pub stranger_here : {R A : Type 0} (content : A → Option Datum) (shape : Shape) (seen : R → A) (values : List R) (i : ℕ) (value : R)
    → i < length values → value ≡ get_or values i value → ((d : Datum) → content (seen value) ≡ Some d → IsOf shape d → ⊥)
    → HasStranger content shape (map seen values)
stranger_here content shape seen [] i value here is away ds are = absurd (omega (arith, here))
stranger_here content shape seen (r ∷ rs) i value here is away [] are = absurd are.held
stranger_here content shape seen (r ∷ rs) zero value here is away (d ∷ ds) are =
    away d (ap (λ v. content (seen v)) is ∙ are.held.0) (All-head (IsOf shape) d ds are.of_shape)
stranger_here content shape seen (r ∷ rs) (suc i) value here is away (d ∷ ds) are =
    stranger_here content shape seen rs i value (let h : suc i < suc (length rs) = here in omega arith) is away ds
    (record { held = are.held.1; of_shape = All-tail (IsOf shape) d ds are.of_shape })

-- the entries of one leaf, of a shape that allows all of them, and of one that allows some
module _ (leaf : Leaf) (all some : Shape) (P : Datum → Type 0) (takes : (d : Datum) → IsOf all d → P d → IsOf some d)
    (gives : (d : Datum) → IsOf some d → IsOf all d) where
  narrowed : (vs : List Value) (ds : List Datum) → All (AsEntry leaf P) vs → Hold (leaf_content (Some leaf)) vs ds → All (IsOf all) ds → All (IsOf some) ds
  narrowed [] [] allowed held of = All-nil (IsOf some)
  narrowed [] (d ∷ ds) allowed held of = absurd held
  narrowed (v ∷ vs) [] allowed held of = absurd held
  narrowed (v ∷ vs) (d ∷ ds) allowed held of =
      All-cons (IsOf some) d ds (takes d (All-head (IsOf all) d ds of) (All-head (AsEntry leaf P) v vs allowed d held.0))
      (narrowed vs ds (All-tail (AsEntry leaf P) v vs allowed) held.1 (All-tail (IsOf all) d ds of))

  widened : (ds : List Datum) → All (IsOf some) ds → All (IsOf all) ds
  widened [] of = All-nil (IsOf all)
  widened (d ∷ ds) of = All-cons (IsOf all) d ds (gives d (All-head (IsOf some) d ds of)) (widened ds (All-tail (IsOf some) d ds of))

  pub stranger_widened : (vs : List Value) → HasStranger (leaf_content (Some leaf)) all vs → HasStranger (leaf_content (Some leaf)) some vs
  stranger_widened vs stranger ds are = stranger ds (record { held = are.held; of_shape = widened ds are.of_shape })

  pub are_narrowed : (vs : List Value) (ds : List Datum) → All (AsEntry leaf P) vs → AreOf (leaf_content (Some leaf)) all vs ds
      → AreOf (leaf_content (Some leaf)) some vs ds
  are_narrowed vs ds allowed are = record { held = are.held; of_shape = narrowed vs ds allowed are.held are.of_shape }

-- ---- numbers

module _ (width : ℕ) (signed : Bool) (allowed : Allowed) where
  pub number_taken : (d : Datum) → IsOf (int_shape width signed) d → IsAllowed allowed (number_in d) → IsOf (number_shape width signed allowed) d
  number_taken d of is = record { value = of.value; is = of.is; in_width = of.in_width; in_allowed = subst (IsAllowed allowed) (ap number_in of.is) is }

  pub number_given : (d : Datum) → IsOf (number_shape width signed allowed) d → IsOf (int_shape width signed) d
  number_given d of = record { value = of.value; is = of.is; in_width = of.in_width; in_allowed = tt }

  pub number_allowed : (d : Datum) → IsOf (number_shape width signed allowed) d → IsAllowed allowed (number_in d)
  number_allowed d of = subst (IsAllowed allowed) (sym (ap number_in of.is)) of.in_allowed

  pub writes_narrowed : (leaf : Leaf) (vs : List Value) (old new : List ℕ) → All (AsEntry leaf (λ d. IsAllowed allowed (number_in d))) vs
      → Writes (leaf_content (Some leaf)) (int_shape width signed) vs old new → Writes (leaf_content (Some leaf)) (number_shape width signed allowed) vs old new
  writes_narrowed leaf vs old new each w = record {
    contents = w.contents;
    are = are_narrowed leaf (int_shape width signed) (number_shape width signed allowed) (λ d. IsAllowed allowed (number_in d)) number_taken number_given vs w.contents each w.are;
    counts = w.counts;
    written = w.written;
  }

  pub stranger_narrowed : (leaf : Leaf) (vs : List Value) → HasStranger (leaf_content (Some leaf)) (int_shape width signed) vs
      → HasStranger (leaf_content (Some leaf)) (number_shape width signed allowed) vs
  stranger_narrowed leaf vs stranger =
      stranger_widened leaf (int_shape width signed) (number_shape width signed allowed) (λ d. IsAllowed allowed (number_in d)) number_taken number_given vs stranger

-- ---- texts

module _ (limit : ℕ) where
  text_taken : (d : Datum) → IsOf (text_shape None) d → IsShort limit d → IsOf (text_shape (Some limit)) d
  text_taken d of short = record { bytes = of.bytes; is = of.is; utf8 = of.utf8; within = subst (λ bytes. length bytes ≤ limit) (ap text_in of.is) short }

  text_given : (d : Datum) → IsOf (text_shape (Some limit)) d → IsOf (text_shape None) d
  text_given d of = record { bytes = of.bytes; is = of.is; utf8 = of.utf8; within = tt }

  pub text_short : (d : Datum) → IsOf (text_shape (Some limit)) d → IsShort limit d
  text_short d of = subst (λ bytes. length bytes ≤ limit) (sym (ap text_in of.is)) of.within

  pub writes_short : (vs : List Value) (old new : List ℕ) → All (AsEntry (leaf_of (texts None)) (IsShort limit)) vs
      → Writes (leaf_content (Some (leaf_of (texts None)))) (text_shape None) vs old new
      → Writes (leaf_content (Some (leaf_of (texts None)))) (text_shape (Some limit)) vs old new
  writes_short vs old new each w = record {
    contents = w.contents;
    are = are_narrowed (leaf_of (texts None)) (text_shape None) (text_shape (Some limit)) (IsShort limit) text_taken text_given vs w.contents each w.are;
    counts = w.counts;
    written = w.written;
  }

  pub stranger_short : (vs : List Value) → HasStranger (leaf_content (Some (leaf_of (texts None)))) (text_shape None) vs
      → HasStranger (leaf_content (Some (leaf_of (texts None)))) (text_shape (Some limit)) vs
  stranger_short vs stranger =
      stranger_widened (leaf_of (texts None)) (text_shape None) (text_shape (Some limit)) (IsShort limit) text_taken text_given vs stranger
