-- What the encoders of the fields do to their columns makes up what the encoder of the pair does.
use Rattle.std.proofs.Common.{◌≡◌, ℕ, List, [], ◌∷◌, ◌++◌, map, refl, sym, ap, ◌∙◌, subst, append_assoc}
use Rattle.std.specs.List.{AllZip}
use Rattle.bitcode_shapes.specs.Datum.{Datum, pair, first_in, second_in}
use Rattle.bitcode_shapes.specs.Shape.{Shape, pair_shape}
use Rattle.bitcode_shapes.specs.Pairs.{ListsPair}
use Rattle.bitcode_coder.specs.Columns.{Columns, no_columns, two, emptied, beside, CountsFit}
use Rattle.bitcode_coder.specs.Spelling.{columns_bytes}
use Rattle.bitcode_coder.specs.Coder.{written_columns, JoinsListing, WritesListing, OverflowsWithListing, JoinsEach, OverflowsWithEach}
use Rattle.bitcode_tuples.specs.Pairs.{pairs_of, EachListed}
use Rattle.bitcode_tuples.specs.PairLaws.{same_two}

abbrev first_columns : Columns → Columns
first_columns (two first second) = first
first_columns _ = no_columns

abbrev second_columns : Columns → Columns
second_columns (two first second) = second
second_columns _ = no_columns

-- where a pair of columns has no entries, neither has one of them
pub none_in_both : (a b : Columns) → two a b ≡ emptied (two a b) → (a ≡ emptied a) × (b ≡ emptied b)
none_in_both a b none = (ap first_columns none, ap second_columns none)

module _ {P Q : Type 0} (lists_p : P → Datum → Type 0) (lists_q : Q → Datum → Type 0) (s t : Shape) (x : P × Q) where
  pub joins_pair : (a b c d : Columns) → JoinsListing lists_p s x.0 a c → JoinsListing lists_q t x.1 b d
      → JoinsListing (ListsPair lists_p lists_q) (pair_shape s t) x (two a b) (two c d)
  joins_pair a b c d h k = record {
    datum = pair h.datum k.datum;
    listing = record { first = h.datum; second = k.datum; is = refl; lists_first = h.listing; lists_second = k.listing };
    joined = same_two h.joined k.joined;
    fits = λ f. (h.fits f.0, k.fits f.1);
  }

  -- the bytes of the second columns stand behind those of the first
  pub writes_pair : (a b : Columns) (before middle after : List ℕ) → WritesListing lists_p s x.0 a before middle → WritesListing lists_q t x.1 b middle after
      → WritesListing (ListsPair lists_p lists_q) (pair_shape s t) x (two a b) before after
  writes_pair a b before middle after h k = record {
    new = two h.new k.new;
    joined = joins_pair a b h.new k.new h.joined k.joined;
    written = k.written ∙ (ap (λ front. front ++ columns_bytes k.new) h.written ∙ append_assoc before (columns_bytes h.new) (columns_bytes k.new));
  }

  pub overflows_with_first : (a b : Columns) (e : Datum) → lists_q x.1 e → OverflowsWithListing lists_p s x.0 a
      → OverflowsWithListing (ListsPair lists_p lists_q) (pair_shape s t) x (two a b)
  overflows_with_first a b e l h = record {
    datum = pair h.datum e;
    listing = record { first = h.datum; second = e; is = refl; lists_first = h.listing; lists_second = l };
    overflows = λ f. h.overflows f.0;
  }

  pub overflows_with_second : (a b : Columns) (d : Datum) → lists_p x.0 d → OverflowsWithListing lists_q t x.1 b
      → OverflowsWithListing (ListsPair lists_p lists_q) (pair_shape s t) x (two a b)
  overflows_with_second a b d l h = record {
    datum = pair d h.datum;
    listing = record { first = d; second = h.datum; is = refl; lists_first = l; lists_second = h.listing };
    overflows = λ f. h.overflows f.1;
  }

-- ---- a value that stands for another one, as a tuple for a pair

module _ {T U : Type 0} {lists : U → Datum → Type 0} {s : Shape} (split : T → U) (t : T) where
  pub joins_as : {a b : Columns} → JoinsListing lists s (split t) a b → JoinsListing (λ u d. lists (split u) d) s t a b
  joins_as h = record { datum = h.datum; listing = h.listing; joined = h.joined; fits = h.fits }

  pub writes_as : {a : Columns} {before after : List ℕ} → WritesListing lists s (split t) a before after → WritesListing (λ u d. lists (split u) d) s t a before after
  writes_as w = record { new = w.new; joined = joins_as w.joined; written = w.written }

  pub overflows_as : {a : Columns} → OverflowsWithListing lists s (split t) a → OverflowsWithListing (λ u d. lists (split u) d) s t a
  overflows_as h = record { datum = h.datum; listing = h.listing; overflows = h.overflows }

-- ---- several values that stand for pairs, as tuples do, and pairs for themselves: of each item one

module _ {X T P Q : Type 0} (of : X → T) (split : T → P × Q) (lists_p : P → Datum → Type 0) (lists_q : Q → Datum → Type 0) where
  pairs_listed : (xs : List X) (ds es : List Datum) → AllZip lists_p (map (λ x. (split (of x)).0) xs) ds → AllZip lists_q (map (λ x. (split (of x)).1) xs) es
      → AllZip (λ t d. ListsPair lists_p lists_q (split t) d) (map of xs) (pairs_of ds es)
  pairs_listed [] [] es h k = tt
  pairs_listed [] (d ∷ ds) es h k = absurd h
  pairs_listed (x ∷ xs) [] es h k = absurd h
  pairs_listed (x ∷ xs) (d ∷ ds) [] h k = absurd k
  pairs_listed (x ∷ xs) (d ∷ ds) (e ∷ es) h k =
      (record { first = d; second = e; is = refl; lists_first = h.0; lists_second = k.0 }, pairs_listed xs ds es h.1 k.1)

  pub firsts_listed : (xs : List X) (ds : List Datum) → AllZip (λ t d. ListsPair lists_p lists_q (split t) d) (map of xs) ds
      → EachListed lists_p (map (λ x. (split (of x)).0) xs)
  firsts_listed [] ds z = ([], tt)
  firsts_listed (x ∷ xs) [] z = absurd z
  firsts_listed (x ∷ xs) (d ∷ ds) z = let rest = firsts_listed xs ds z.1 in (z.0.first ∷ rest.0, (z.0.lists_first, rest.1))

  pub seconds_listed : (xs : List X) (ds : List Datum) → AllZip (λ t d. ListsPair lists_p lists_q (split t) d) (map of xs) ds
      → EachListed lists_q (map (λ x. (split (of x)).1) xs)
  seconds_listed [] ds z = ([], tt)
  seconds_listed (x ∷ xs) [] z = absurd z
  seconds_listed (x ∷ xs) (d ∷ ds) z = let rest = seconds_listed xs ds z.1 in (z.0.second ∷ rest.0, (z.0.lists_second, rest.1))

  firsts_of : (xs : List X) (ds es : List Datum) → AllZip lists_p (map (λ x. (split (of x)).0) xs) ds → AllZip lists_q (map (λ x. (split (of x)).1) xs) es
      → map first_in (pairs_of ds es) ≡ ds
  firsts_of [] [] es h k = refl
  firsts_of [] (d ∷ ds) es h k = absurd h
  firsts_of (x ∷ xs) [] es h k = absurd h
  firsts_of (x ∷ xs) (d ∷ ds) [] h k = absurd k
  firsts_of (x ∷ xs) (d ∷ ds) (e ∷ es) h k = ap (λ rest. d ∷ rest) (firsts_of xs ds es h.1 k.1)

  seconds_of : (xs : List X) (ds es : List Datum) → AllZip lists_p (map (λ x. (split (of x)).0) xs) ds → AllZip lists_q (map (λ x. (split (of x)).1) xs) es
      → map second_in (pairs_of ds es) ≡ es
  seconds_of [] [] [] h k = refl
  seconds_of [] [] (e ∷ es) h k = absurd k
  seconds_of [] (d ∷ ds) es h k = absurd h
  seconds_of (x ∷ xs) [] es h k = absurd h
  seconds_of (x ∷ xs) (d ∷ ds) [] h k = absurd k
  seconds_of (x ∷ xs) (d ∷ ds) (e ∷ es) h k = ap (λ rest. e ∷ rest) (seconds_of xs ds es h.1 k.1)

module _ {X T P Q : Type 0} (of : X → T) (split : T → P × Q) {lists_p : P → Datum → Type 0} {lists_q : Q → Datum → Type 0} {s t : Shape} (xs : List X)
    {a b : Columns} where
  pub joins_pairs : {c d : Columns} → JoinsEach lists_p s (map (λ x. (split (of x)).0) xs) a c → JoinsEach lists_q t (map (λ x. (split (of x)).1) xs) b d
      → JoinsEach (λ t d. ListsPair lists_p lists_q (split t) d) (pair_shape s t) (map of xs) (two a b) (two c d)
  joins_pairs h k = record {
    parts = pairs_of h.parts k.parts;
    listings = pairs_listed of split lists_p lists_q xs h.parts k.parts h.listings k.listings;
    joined =
        same_two (h.joined ∙ ap (λ ds. beside a (written_columns s ds)) (sym (firsts_of of split lists_p lists_q xs h.parts k.parts h.listings k.listings)))
        (k.joined ∙ ap (λ ds. beside b (written_columns t ds)) (sym (seconds_of of split lists_p lists_q xs h.parts k.parts h.listings k.listings)));
    fits = λ fit. (h.fits fit.0, k.fits fit.1);
  }

  pub overflows_with_firsts : (es : List Datum) → AllZip lists_q (map (λ x. (split (of x)).1) xs) es
      → OverflowsWithEach lists_p s (map (λ x. (split (of x)).0) xs) a
      → OverflowsWithEach (λ t d. ListsPair lists_p lists_q (split t) d) (pair_shape s t) (map of xs) (two a b)
  overflows_with_firsts es l h = record {
    parts = pairs_of h.parts es;
    listings = pairs_listed of split lists_p lists_q xs h.parts es h.listings l;
    overflows = λ fit. h.overflows (subst (λ ds. CountsFit (beside a (written_columns s ds))) (firsts_of of split lists_p lists_q xs h.parts es h.listings l) fit.0);
  }

  pub overflows_with_seconds : (ds : List Datum) → AllZip lists_p (map (λ x. (split (of x)).0) xs) ds
      → OverflowsWithEach lists_q t (map (λ x. (split (of x)).1) xs) b
      → OverflowsWithEach (λ t d. ListsPair lists_p lists_q (split t) d) (pair_shape s t) (map of xs) (two a b)
  overflows_with_seconds ds l h = record {
    parts = pairs_of ds h.parts;
    listings = pairs_listed of split lists_p lists_q xs ds h.parts l h.listings;
    overflows = λ fit. h.overflows (subst (λ es. CountsFit (beside b (written_columns t es))) (seconds_of of split lists_p lists_q xs ds h.parts l h.listings) fit.1);
  }
