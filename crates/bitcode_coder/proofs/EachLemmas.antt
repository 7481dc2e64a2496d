-- Values that are written one by one.
use Rattle.std.proofs.Common.{◌≡◌, ℕ, ◌+◌, ◌<◌, List, [], ◌∷◌, ◌++◌, length, map, take, drop, slice_index_or, refl, sym, ◌∙◌, ap, subst, append_assoc, append-nil, take-append-drop}
use Rattle.std.proofs.lemmas.List.{at_drop_more, map-append, take_more}
use Rattle.std.specs.List.{AllZip}
use Rattle.bitcode_shapes.specs.Datum.{Datum}
use Rattle.bitcode_shapes.specs.Shape.{Shape}
use Rattle.bitcode_coder.specs.Columns.{Columns, emptied, beside, CountsFit}
use Rattle.bitcode_coder.specs.Coder.{written_columns, JoinsListing, OverflowsWithListing, JoinsEach, OverflowsWithEach}
use Rattle.bitcode_coder.proofs.ArrayCountLemmas.{joined-append, joined-none, CountsFit-fewer}

pub AllZip-append : {A B : Type 0} (R : A → B → Type 0) (xs ys : List A) (us vs : List B) → AllZip R xs us → AllZip R ys vs → AllZip R (xs ++ ys) (us ++ vs)
AllZip-append R [] ys [] vs h i = i
AllZip-append R [] ys (u ∷ us) vs h i = absurd h
AllZip-append R (x ∷ xs) ys [] vs h i = absurd h
AllZip-append R (x ∷ xs) ys (u ∷ us) vs h i = (h.0, AllZip-append R xs ys us vs h.1 i)

module _ {T : Type 0} (lists : T → Datum → Type 0) (shape : Shape) where
  -- one element is a list of elements
  each_of_one : (old new : Columns) (item : T) → JoinsListing lists shape item old new → JoinsEach lists shape (item ∷ []) old new
  each_of_one old new item one = record { parts = one.datum ∷ []; listings = (one.listing, tt); joined = one.joined; fits = one.fits }

  overflows_of_one : (old : Columns) (item : T) → OverflowsWithListing lists shape item old → OverflowsWithEach lists shape (item ∷ []) old
  overflows_of_one old item one = record { parts = one.datum ∷ []; listings = (one.listing, tt); overflows = one.overflows }

  -- some elements were written, and then others
  pub joins_both : (old now new : Columns) (before after : List T) → emptied old ≡ written_columns shape []
      → JoinsEach lists shape before old now → JoinsEach lists shape after now new → JoinsEach lists shape (before ++ after) old new
  joins_both old now new before after form front back = record {
    parts = front.parts ++ back.parts;
    listings = AllZip-append lists before after front.parts back.parts front.listings back.listings;
    joined = back.joined ∙ ap (λ a. beside a (written_columns shape back.parts)) front.joined ∙ sym (joined-append shape old form front.parts back.parts);
    fits = λ fit. back.fits (front.fits fit);
  }

  -- some elements were refused, after some and before others
  pub overflows_within : (old now : Columns) (before middle after : List T) → emptied old ≡ written_columns shape []
      → JoinsEach lists shape before old now → OverflowsWithEach lists shape middle now → (others : List Datum) → AllZip lists after others
      → OverflowsWithEach lists shape (before ++ (middle ++ after)) old
  overflows_within old now before middle after form front some others listed = record {
    parts = front.parts ++ (some.parts ++ others);
    listings =
        AllZip-append lists before (middle ++ after) front.parts (some.parts ++ others) front.listings
        (AllZip-append lists middle after some.parts others some.listings listed);
    overflows = λ fits.
        let grouped : CountsFit (beside old (written_columns shape ((front.parts ++ some.parts) ++ others))) =
        subst (λ ds. CountsFit (beside old (written_columns shape ds))) (sym (append_assoc front.parts some.parts others)) fits in
        let fewer : CountsFit (beside old (written_columns shape (front.parts ++ some.parts))) = CountsFit-fewer shape old form (front.parts ++ some.parts) others grouped in
        some.overflows
        (subst CountsFit (joined-append shape old form front.parts some.parts ∙ ap (λ a. beside a (written_columns shape some.parts)) (sym front.joined)) fewer);
  }

  pub joins_none : (old : Columns) → emptied old ≡ written_columns shape [] → JoinsEach lists shape [] old old
  joins_none old form = record { parts = []; listings = tt; joined = sym (joined-none shape old form); fits = λ fit. fit }

-- the elements before the rest were written
pub record JoinsFront {T : Type 0} (lists : T → Datum → Type 0) (shape : Shape) (whole rest : List T) (old now : Columns) : Type 0 where
  pub done : List T
  pub parted : whole ≡ done ++ rest
  pub joins : JoinsEach lists shape done old now

module _ {T : Type 0} (lists : T → Datum → Type 0) (shape : Shape) (old : Columns) (form : emptied old ≡ written_columns shape []) where
  pub front_none : (whole : List T) → JoinsFront lists shape whole whole old old
  front_none whole = record { done = []; parted = refl; joins = joins_none lists shape old form }

  -- several elements more
  pub front_more_each : (whole items rest : List T) (now new : Columns) → JoinsFront lists shape whole (items ++ rest) old now
      → JoinsEach lists shape items now new → JoinsFront lists shape whole rest old new
  front_more_each whole items rest now new front some = record {
    done = front.done ++ items;
    parted = front.parted ∙ sym (append_assoc front.done items rest);
    joins = joins_both lists shape old now new front.done items form front.joins some;
  }

  -- and one
  pub front_more : (whole rest : List T) (item : T) (now new : Columns) → JoinsFront lists shape whole (item ∷ rest) old now
      → JoinsListing lists shape item now new → JoinsFront lists shape whole rest old new
  front_more whole rest item now new front one = front_more_each whole (item ∷ []) rest now new front (each_of_one lists shape now new item one)

  pub front_overflows_each : (whole items rest : List T) (now : Columns) → JoinsFront lists shape whole (items ++ rest) old now
      → OverflowsWithEach lists shape items now → (others : List Datum) → AllZip lists rest others → OverflowsWithEach lists shape whole old
  front_overflows_each whole items rest now front some others listed =
      subst (λ ts. OverflowsWithEach lists shape ts old) (sym front.parted)
      (overflows_within lists shape old now front.done items rest form front.joins some others listed)

  pub front_overflows : (whole rest : List T) (item : T) (now : Columns) → JoinsFront lists shape whole (item ∷ rest) old now
      → OverflowsWithListing lists shape item now → (others : List Datum) → AllZip lists rest others → OverflowsWithEach lists shape whole old
  front_overflows whole rest item now front one others listed =
      front_overflows_each whole (item ∷ []) rest now front (overflows_of_one lists shape now item one) others listed

  pub front_whole : (whole rest : List T) (now : Columns) → JoinsFront lists shape whole rest old now → rest ≡ [] → JoinsEach lists shape whole old now
  front_whole whole rest now front none =
      subst (λ items. JoinsEach lists shape items old now)
      (sym (front.parted ∙ ap (λ items. front.done ++ items) none ∙ append-nil front.done)) front.joins

-- what is behind the references from one place on
pub next_behind : {A B : Type 0} (value : A → B) (xs : List A) (i : ℕ) (x : A) → i < length xs → x ≡ slice_index_or xs i x
    → map value (drop i xs) ≡ value x ∷ map value (drop (i + 1) xs)
next_behind value xs i x here is = at_drop_more (map value) xs i x here ∙ ap (λ y. value y ∷ map value (drop (i + 1) xs)) (sym is)

-- what is left of a list from one place on
pub next_of : {A : Type 0} (xs : List A) (i : ℕ) (x : A) → i < length xs → x ≡ slice_index_or xs i x → drop i xs ≡ x ∷ drop (i + 1) xs
next_of xs i x here is = at_drop_more (λ ys. ys) xs i x here ∙ ap (λ y. y ∷ drop (i + 1) xs) (sym is)

-- one item more
pub parts_more : {S B : Type 0} (of : S → B) (items : List S) (i : ℕ) (item : S) → i < length items → item ≡ slice_index_or items i item
    → map of (take (i + 1) items) ≡ map of (take i items) ++ of item ∷ []
parts_more of items i item here is =
    ap (map of) (take_more items i item here ∙ ap (λ t. take i items ++ t ∷ []) (sym is)) ∙ map-append of (take i items) (item ∷ [])

module _ {S T : Type 0} (lists : T → Datum → Type 0) (shape : Shape) (of : S → T) (items : List S) where
  -- the part of one item more
  pub each_more : (i : ℕ) (item : S) → i < length items → item ≡ slice_index_or items i item → (old now new : Columns) → emptied old ≡ written_columns shape []
      → JoinsEach lists shape (map of (take i items)) old now → JoinsListing lists shape (of item) now new
      → JoinsEach lists shape (map of (take (i + 1) items)) old new
  each_more i item here is old now new form some one =
      subst (λ ts. JoinsEach lists shape ts old new) (sym (parts_more of items i item here is))
      (joins_both lists shape old now new (map of (take i items)) (of item ∷ []) form some (each_of_one lists shape now new (of item) one))

  -- what lies before the others was written
  pub front_of : (i : ℕ) (old now : Columns) (rest : List T) → map of (drop i items) ≡ rest → JoinsEach lists shape (map of (take i items)) old now
      → JoinsFront lists shape (map of items) rest old now
  front_of i old now rest behind some = record {
    done = map of (take i items);
    parted =
        ap (map of) (sym (take-append-drop i items)) ∙ map-append of (take i items) (drop i items) ∙ ap (λ ts. map of (take i items) ++ ts) behind;
    joins = some;
  }
