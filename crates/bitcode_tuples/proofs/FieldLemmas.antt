-- What is written of something of each of several values, as a field, is written of the values: where a listing of the one
-- is one of the other.
use Rattle.std.proofs.Common.{◌≡◌, ℕ, List, [], ◌∷◌, map, subst, sym, ap, ◌∙◌}
use Rattle.std.specs.List.{AllZip}
use Rattle.bitcode_shapes.specs.Datum.{Datum}
use Rattle.bitcode_shapes.specs.Shape.{Shape}
use Rattle.bitcode_coder.specs.Columns.{Columns, CountsFit, beside}
use Rattle.bitcode_coder.specs.Coder.{written_columns, JoinsListing, WritesListing, OverflowsWithListing, JoinsEach, OverflowsWithEach}

module _ {X T U : Type 0} (of : X → T) (field : T → U) (lists : U → Datum → Type 0) (listed : T → Datum → Type 0)
    (law : (t : T) (d : Datum) → lists (field t) d → listed t d) where
  pub each_listed_as : (xs : List X) (ds : List Datum) → AllZip lists (map (λ x. field (of x)) xs) ds → AllZip listed (map of xs) ds
  each_listed_as [] [] z = tt
  each_listed_as [] (d ∷ ds) z = absurd z
  each_listed_as (x ∷ xs) [] z = absurd z
  each_listed_as (x ∷ xs) (d ∷ ds) z = (law (of x) d z.0, each_listed_as xs ds z.1)

  module _ {s t : Shape} (same : written_columns s ≡ written_columns t) (xs : List X) {a : Columns} where
    pub joins_listed_as : {b : Columns} → JoinsEach lists s (map (λ x. field (of x)) xs) a b → JoinsEach listed t (map of xs) a b
    joins_listed_as h =
        record {
          parts = h.parts;
          listings = each_listed_as xs h.parts h.listings;
          joined = h.joined ∙ ap (λ columns. beside a (columns h.parts)) same;
          fits = h.fits;
        }

    pub overflows_listed_as : OverflowsWithEach lists s (map (λ x. field (of x)) xs) a → OverflowsWithEach listed t (map of xs) a
    overflows_listed_as h =
        record {
          parts = h.parts;
          listings = each_listed_as xs h.parts h.listings;
          overflows = λ fits. h.overflows (subst (λ columns. CountsFit (beside a (columns h.parts))) (sym same) fits);
        }

-- the same of one value
module _ {T : Type 0} (lists listed : T → Datum → Type 0) (law : (t : T) (d : Datum) → lists t d → listed t d) {s u : Shape}
    (same : written_columns s ≡ written_columns u) (t : T) {a : Columns} where
  pub joins_one_as : {b : Columns} → JoinsListing lists s t a b → JoinsListing listed u t a b
  joins_one_as h = record {
    datum = h.datum;
    listing = law t h.datum h.listing;
    joined = h.joined ∙ ap (λ columns. beside a (columns (h.datum ∷ []))) same;
    fits = h.fits;
  }

  pub writes_one_as : {before after : List ℕ} → WritesListing lists s t a before after → WritesListing listed u t a before after
  writes_one_as w = record { new = w.new; joined = joins_one_as w.joined; written = w.written }

  pub overflows_one_as : OverflowsWithListing lists s t a → OverflowsWithListing listed u t a
  overflows_one_as h = record {
    datum = h.datum;
    listing = law t h.datum h.listing;
    overflows = λ fits. h.overflows (subst (λ columns. CountsFit (beside a (columns (h.datum ∷ [])))) (sym same) fits);
  }
