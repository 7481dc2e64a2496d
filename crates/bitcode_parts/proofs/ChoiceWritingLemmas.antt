-- A choice is written as its variant, and then its payload to the columns of that variant.
use Rattle.std.proofs.Common.{◌≡◌, ℕ, suc, ◌+◌, ◌<◌, List, [], ◌∷◌, ◌++◌, map, refl, sym, ap, ap₂, subst, ◌∙◌, arith, append-nil}
use Rattle.std.proofs.lemmas.List.{map-append}
use Rattle.std.proofs.lemmas.List.Elements.{All-nil, All-cons}
use Rattle.bitcode_shapes.specs.Datum.{Datum, choice}
use Rattle.bitcode_shapes.specs.Shape.{Shape, Shapes, no_shapes, shape_and, choice_shape, variant_count, IsOf}
use Rattle.bitcode_coder.specs.Columns.{Columns, no_columns, one, two, arrays, variants, beside, emptied, plain, CountsFit}
use Rattle.bitcode_coder.specs.Transposition.{columns_of, payload_columns, payloads}
use Rattle.bitcode_coder.specs.Spelling.{natural}
use Rattle.bitcode_coder.specs.Coder.{written_columns, JoinsListing, OverflowsWithListing, SurelyOverflows}
use Rattle.bitcode_parts.specs.Payloads.{written_payloads, HasPayloads, JoinsPayload, OverflowsAtPayload}
use Rattle.bitcode_parts.proofs.ChoiceLemmas.{payloads-same, payloads-other}

-- ---- the columns of payloads

beside-emptied : (a : Columns) → beside a (emptied a) ≡ a
beside-emptied no_columns = refl
beside-emptied (one kind entries) = ap (one kind) (append-nil entries)
beside-emptied (two first second) = ap₂ two (beside-emptied first) (beside-emptied second)
beside-emptied (arrays size count elements) = ap₂ (arrays size) (let e : count + 0 ≡ count = omega arith in e) (beside-emptied elements)

-- no entries are joined
pub beside-none : (a none : Columns) → emptied a ≡ none → beside a none ≡ a
beside-none a none is = ap (beside a) (sym is) ∙ beside-emptied a

-- a choice of an earlier variant adds nothing
none_later : (ss : Shapes) (index variant : ℕ) (d : Datum) → variant < index → payload_columns ss index (choice variant d ∷ []) ≡ payload_columns ss index []
none_later no_shapes index variant d before = refl
none_later (shape_and s ss) index variant d before =
    ap₂ two (ap (columns_of s) (payloads-other index variant d [] (λ e. omega arith))) (none_later ss (suc index) variant d (omega arith))

-- ---- joined

module _ (s : Shape) (ss : Shapes) (index : ℕ) where
  -- the choice is of the first variant
  pub joins_here : (d : Datum) (a b rest : Columns) → b ≡ beside a (written_columns s (d ∷ [])) → (CountsFit a → CountsFit b) → HasPayloads ss (suc index) rest
      → JoinsPayload (shape_and s ss) index index d (two a rest) (two b rest)
  joins_here d a b rest joined fits later = record {
    joined = ap₂ two (joined ∙ ap (λ ds. beside a (written_columns s ds)) (sym (payloads-same index d [])))
        (sym (beside-none rest (written_payloads ss (suc index) (choice index d ∷ []))
        (later ∙ ap plain (sym (none_later ss (suc index) index d (omega arith))))));
    fits = λ f. (fits f.0, f.1);
  }

  -- it is of a later one
  pub joins_later : (variant : ℕ) (d : Datum) (a rest new : Columns) → index < variant → emptied a ≡ written_columns s []
      → JoinsPayload ss (suc index) variant d rest new → JoinsPayload (shape_and s ss) index variant d (two a rest) (two a new)
  joins_later variant d a rest new before form h = record {
    joined = ap₂ two
        (sym (beside-none a (written_columns s (payloads index (choice variant d ∷ [])))
        (form ∙ ap (written_columns s) (sym (payloads-other index variant d [] (λ e. omega arith))))))
        h.joined;
    fits = λ f. (f.0, h.fits f.1);
  }

  pub overflows_here : (d : Datum) (a rest : Columns) → (CountsFit (beside a (written_columns s (d ∷ []))) → ⊥) → OverflowsAtPayload (shape_and s ss) index index d (two a rest)
  overflows_here d a rest h = λ f. h (subst (λ ds. CountsFit (beside a (written_columns s ds))) (payloads-same index d []) f.0)

  pub overflows_later : (variant : ℕ) (d : Datum) (a rest : Columns) → OverflowsAtPayload ss (suc index) variant d rest
      → OverflowsAtPayload (shape_and s ss) index variant d (two a rest)
  overflows_later variant d a rest h = λ f. h f.1

module _ {T : Type 0} (lists : T → Datum → Type 0) (shapes : Shapes) (t : T) (variant : ℕ) (d : Datum) (listing : lists t (choice variant d)) where
  -- the variant and then the payload were joined
  pub joins_choice : (entries more : List ℕ) (old new : Columns) → more ≡ entries ++ variant ∷ [] → JoinsPayload shapes 0 variant d old new
      → JoinsListing lists (choice_shape shapes) t (two (one (variants (variant_count shapes)) (map natural entries)) old)
      (two (one (variants (variant_count shapes)) (map natural more)) new)
  joins_choice entries more old new pushed h = record {
    datum = choice variant d;
    listing = listing;
    joined = ap₂ two (ap (one (variants (variant_count shapes))) (ap (map natural) pushed ∙ map-append natural entries (variant ∷ []))) h.joined;
    fits = λ f. (tt, h.fits f.1);
  }

  -- with the payload some number of arrays is no length
  pub overflows_choice : (entries : List ℕ) (old : Columns) → OverflowsAtPayload shapes 0 variant d old
      → OverflowsWithListing lists (choice_shape shapes) t (two (one (variants (variant_count shapes)) (map natural entries)) old)
  overflows_choice entries old h = record { datum = choice variant d; listing = listing; overflows = λ f. h f.1 }

-- ---- refused

-- no room can be made for the payload, whatever it is
pub overflows_surely : (s : Shape) (a : Columns) (d : Datum) → IsOf s d → SurelyOverflows s a 1 → CountsFit (beside a (written_columns s (d ∷ []))) → ⊥
overflows_surely s a d is surely = surely (d ∷ []) (All-cons (IsOf s) d [] is (All-nil (IsOf s))) refl
