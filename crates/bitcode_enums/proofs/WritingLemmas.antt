-- A value is written as its variant, and its payload to the columns of that variant.
use Rattle.std.proofs.Common.{◌≡◌, ℕ, suc, ◌+◌, ◌<◌, ◌≤◌, List, [], ◌∷◌, ◌++◌, length, map, take, drop, slice_index_or, refl, sym, ap, subst, ◌∙◌, append_assoc, append-nil, arith}
use Rattle.std.proofs.lemmas.List.{map-append, take_all, at_drop_all}
use Rattle.std.specs.List.{AllZip}
use Rattle.bitcode_shapes.specs.Datum.{Datum, choice}
use Rattle.bitcode_shapes.specs.Shape.{Shape, Shapes, choice_shape, variant_count}
use Rattle.bitcode_shapes.specs.Choices.{ListsChoice}
use Rattle.bitcode_coder.specs.Columns.{Columns, one, two, variants, emptied}
use Rattle.bitcode_coder.specs.Coder.{written_columns, JoinsListing, OverflowsWithListing, JoinsEach, OverflowsWithEach}
use Rattle.bitcode_coder.specs.Spelling.{natural}
use Rattle.bitcode_coder.proofs.EachLemmas.{JoinsFront, front_none, front_more, front_overflows, front_whole, next_behind, parts_more}
use Rattle.bitcode_parts.specs.Payloads.{JoinsPayload, OverflowsAtPayload}
use Rattle.bitcode_parts.proofs.ChoiceWritingLemmas.{joins_choice, overflows_choice}
use Rattle.bitcode_enums.specs.Writing.{JoinsVariant, OverflowsWithVariant}

pub from_first : (first : ℕ) → first ≡ first + 0
from_first first = omega arith

pub from_next : (first index : ℕ) → suc first + index ≡ first + suc index
from_next first index = omega arith

-- ---- the whole enum

module _ {V : Type 0} (index : V → ℕ) (lists : V → ℕ → Datum → Type 0) (v : V) (variant : ℕ) (is : variant ≡ index v) where
  choice_listing : (d : Datum) → lists v (index v) d → ListsChoice lists v (choice variant d)
  choice_listing d l = record { index = variant; payload = d; is = refl; lists_payload = subst (λ n. lists v n d) (sym is) l }

  at_variant : 0 + index v ≡ variant
  at_variant = omega (arith, is)

  module _ (ss : Shapes) (count : ℕ) (counted : variant_count ss ≡ count) (entries : List ℕ) (old : Columns) where
    enum_joins : (more : List ℕ) (new : Columns) → more ≡ entries ++ variant ∷ [] → JoinsVariant index lists ss v old new
        → JoinsListing (ListsChoice lists) (choice_shape ss) v (two (one (variants count) (map natural entries)) old) (two (one (variants count) (map natural more)) new)
    enum_joins more new pushed h =
        subst (λ n. JoinsListing (ListsChoice lists) (choice_shape ss) v (two (one (variants n) (map natural entries)) old) (two (one (variants n) (map natural more)) new)) counted
        (joins_choice (ListsChoice lists) ss v variant h.payload (choice_listing h.payload h.listing) entries more old new pushed
        (subst (λ n. JoinsPayload ss 0 n h.payload old new) at_variant (h.joined 0)))

    enum_overflows : OverflowsWithVariant index lists ss v old
        → OverflowsWithListing (ListsChoice lists) (choice_shape ss) v (two (one (variants count) (map natural entries)) old)
    enum_overflows h =
        subst (λ n. OverflowsWithListing (ListsChoice lists) (choice_shape ss) v (two (one (variants n) (map natural entries)) old)) counted
        (overflows_choice (ListsChoice lists) ss v variant h.payload (choice_listing h.payload h.listing) entries old
        (subst (λ n. OverflowsAtPayload ss 0 n h.payload old) at_variant (h.overflows 0)))

-- ---- an enum that is lawful as such

module _ {T : Type 0} (lists_t : T → Datum → Type 0) (index : T → ℕ) (lists_v : T → ℕ → Datum → Type 0) (s : Shape) (ss : Shapes) (is : s ≡ choice_shape ss)
    (lists : (t : T) (d : Datum) → ListsChoice lists_v t d → lists_t t d) (count : ℕ) (counted : variant_count ss ≡ count) (t : T) (variant : ℕ) (of : variant ≡ index t)
    (entries : List ℕ) (old : Columns) where
  pub value_joins : (more : List ℕ) (new : Columns) → more ≡ entries ++ variant ∷ [] → JoinsVariant index lists_v ss t old new
      → JoinsListing lists_t s t (two (one (variants count) (map natural entries)) old) (two (one (variants count) (map natural more)) new)
  value_joins more new pushed h =
      let joins = enum_joins index lists_v t variant of ss count counted entries old more new pushed h in
      subst (λ x. JoinsListing lists_t x t (two (one (variants count) (map natural entries)) old) (two (one (variants count) (map natural more)) new)) (sym is)
      (record { datum = joins.datum; listing = lists t joins.datum joins.listing; joined = joins.joined; fits = joins.fits })

  pub value_overflows : OverflowsWithVariant index lists_v ss t old → OverflowsWithListing lists_t s t (two (one (variants count) (map natural entries)) old)
  value_overflows h =
      let overflows = enum_overflows index lists_v t variant of ss count counted entries old h in
      subst (λ x. OverflowsWithListing lists_t x t (two (one (variants count) (map natural entries)) old)) (sym is)
      (record { datum = overflows.datum; listing = lists t overflows.datum overflows.listing; overflows = overflows.overflows })

-- ---- several values: the variants of all, and then the payload of each, as if each had been written with its variant

module _ {S T : Type 0} (lists_t : T → Datum → Type 0) (index : T → ℕ) (lists_v : T → ℕ → Datum → Type 0) (s : Shape) (ss : Shapes) (is : s ≡ choice_shape ss)
    (lists : (t : T) (d : Datum) → ListsChoice lists_v t d → lists_t t d) (count : ℕ) (counted : variant_count ss ≡ count) (of : S → T) (items : List S) (entries : List ℕ) (old : Columns) where
  -- the columns of an enum with the variants of the items up to a place
  abbrev variants_to : ℕ → Columns → Columns
  variants_to i payloads = two (one (variants count) (map natural (entries ++ map index (map of (take i items))))) payloads

  -- the items up to a place were written
  abbrev WrittenTo : ℕ → Columns → Type 0
  WrittenTo i now = JoinsFront lists_t s (map of items) (map of (drop i items)) (two (one (variants count) (map natural entries)) old) (variants_to i now)

  variants_more : (i : ℕ) (item : S) → i < length items → item ≡ slice_index_or items i item
      → entries ++ map index (map of (take (i + 1) items)) ≡ (entries ++ map index (map of (take i items))) ++ index (of item) ∷ []
  variants_more i item here at =
      ap (λ ts. entries ++ map index ts) (parts_more of items i item here at)
      ∙ ap (λ ns. entries ++ ns) (map-append index (map of (take i items)) (of item ∷ []))
      ∙ sym (append_assoc entries (map index (map of (take i items))) (index (of item) ∷ []))

  module _ (form : two (one (variants count) []) (emptied old) ≡ written_columns s []) where
    pub written_none : WrittenTo 0 old
    written_none =
        subst (λ ns. JoinsFront lists_t s (map of items) (map of items) (two (one (variants count) (map natural entries)) old) (two (one (variants count) (map natural ns)) old))
        (sym (append-nil entries)) (front_none lists_t s (two (one (variants count) (map natural entries)) old) form (map of items))

    module _ (i : ℕ) (item : S) (here : i < length items) (at : item ≡ slice_index_or items i item) (now : Columns) (before : WrittenTo i now) where
      from_here : JoinsFront lists_t s (map of items) (of item ∷ map of (drop (i + 1) items)) (two (one (variants count) (map natural entries)) old) (variants_to i now)
      from_here = subst (λ ts. JoinsFront lists_t s (map of items) ts (two (one (variants count) (map natural entries)) old) (variants_to i now)) (next_behind of items i item here at) before

      pub written_more : (new : Columns) → JoinsVariant index lists_v ss (of item) now new → WrittenTo (i + 1) new
      written_more new h =
          front_more lists_t s (two (one (variants count) (map natural entries)) old) form (map of items) (map of (drop (i + 1) items)) (of item) (variants_to i now) (variants_to (i + 1) new) from_here
          (value_joins lists_t index lists_v s ss is lists count counted (of item) (index (of item)) refl
          (entries ++ map index (map of (take i items))) now (entries ++ map index (map of (take (i + 1) items))) new (variants_more i item here at) h)

      pub overflows_there : OverflowsWithVariant index lists_v ss (of item) now → (others : List Datum) → AllZip lists_t (map of (drop (i + 1) items)) others
          → OverflowsWithEach lists_t s (map of items) (two (one (variants count) (map natural entries)) old)
      overflows_there h others listed =
          front_overflows lists_t s (two (one (variants count) (map natural entries)) old) form (map of items) (map of (drop (i + 1) items)) (of item) (variants_to i now) from_here
          (value_overflows lists_t index lists_v s ss is lists count counted (of item) (index (of item)) refl
          (entries ++ map index (map of (take i items))) now h) others listed

    pub written_all : (i : ℕ) (now : Columns) → WrittenTo i now → length items ≤ i → (more : List ℕ) → more ≡ entries ++ map index (map of items)
        → JoinsEach lists_t s (map of items) (two (one (variants count) (map natural entries)) old) (two (one (variants count) (map natural more)) now)
    written_all i now before past more pushed =
        subst (λ ns. JoinsEach lists_t s (map of items) (two (one (variants count) (map natural entries)) old) (two (one (variants count) (map natural ns)) now))
        (ap (λ xs. entries ++ map index (map of xs)) (take_all i items past) ∙ sym pushed)
        (front_whole lists_t s (two (one (variants count) (map natural entries)) old) form (map of items) (map of (drop i items)) (variants_to i now) before (at_drop_all (map of) items i past))
