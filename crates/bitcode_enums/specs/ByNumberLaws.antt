-- A statement about the payload of one variant, as a statement about all variants.
use Rattle.std.proofs.Common.{◌≡◌, ℕ, zero, suc, ◌+◌, ◌-◌, ◌<◌, List, [], ◌∷◌, ◌++◌, length, map, drop, inl, inr, refl, sym, ap, ap₂, subst, ◌∙◌, append_assoc, append-nil, arith}
use Rattle.std.proofs.lemmas.List.{drop_all, length-append, map-append}
use Rattle.std.specs.Prelude.{◌⊎◌}
use Rattle.bitcode_shapes.specs.Datum.{Datum}
use Rattle.bitcode_shapes.specs.Shape.{Shape, Shapes, no_shapes, shape_and, variant_count}
use Rattle.bitcode_shapes.specs.Choices.{ListsLast, ListsVariant, MakesLast, MakesVariant}
use Rattle.bitcode_coder.specs.Columns.{Columns, emptied}
use Rattle.bitcode_coder.specs.Coder.{written_columns, JoinsListing, OverflowsWithListing, TakesDatum}
use Rattle.bitcode_parts.specs.Payloads.{HasPayloads}
use Rattle.bitcode_enums.specs.ByNumber.{shape_at, shape_among, all_columns, bare_columns, AreColumnsOf, AreShapesOf, shapes_of_variants, index_either, joins_either, overflows_either, takes_either}
use Rattle.bitcode_enums.specs.HeldColumns.{HeldPayloads, AreCounted, payloads_in, payloads_beside}
use Rattle.bitcode_enums.specs.WritingLaws.{first_has_payloads}

-- ---- the last variant

module _ {A : Type 0} where
  pub last_joined : {s : Shape} {lists : A → Datum → Type 0} (v : A) (old new : Columns) → JoinsListing lists s v old new
      → JoinsListing (λ w d. ListsLast lists w 0 d) (shape_at 0 (shape_and s no_shapes)) v old new
  last_joined v old new h = record { datum = h.datum; listing = h.listing; joined = h.joined; fits = h.fits }

  pub last_overflowed : {s : Shape} {lists : A → Datum → Type 0} (v : A) (old : Columns) → OverflowsWithListing lists s v old
      → OverflowsWithListing (λ w d. ListsLast lists w 0 d) (shape_at 0 (shape_and s no_shapes)) v old
  last_overflowed v old h = record { datum = h.datum; listing = h.listing; overflows = h.overflows }

  pub last_taken : (makes : Datum → A → Type 0) (v : A) (old new : List Datum) → TakesDatum makes v old new → TakesDatum (λ d w. MakesLast makes 0 d w) v old new
  last_taken makes v old new h = record { datum = h.datum; taken = h.taken; made = h.made }

-- ---- the first variant, or one of the rest

module _ {A R : Type 0} (s : Shape) (ss : Shapes) (lists_a : A → Datum → Type 0) (lists_r : R → ℕ → Datum → Type 0) (index : R → ℕ) where
  pub either_joined : (joins : R → Columns → Columns → Type 0)
      → ((r : R) (old new : Columns) → joins r old new → JoinsListing (λ w d. lists_r w (index w) d) (shape_at (index r) ss) r old new)
      → (v : A ⊎ R) (old new : Columns) → joins_either (λ a. JoinsListing lists_a s a) joins v old new
      → JoinsListing (λ w d. ListsVariant lists_a lists_r w (index_either index w) d) (shape_at (index_either index v) (shape_and s ss)) v old new
  either_joined joins rest (inl a) old new h = record { datum = h.datum; listing = h.listing; joined = h.joined; fits = h.fits }
  either_joined joins rest (inr r) old new h =
      let later = rest r old new h in
      record { datum = later.datum; listing = later.listing; joined = later.joined; fits = later.fits }

  pub either_overflowed : (overflows : R → Columns → Type 0)
      → ((r : R) (old : Columns) → overflows r old → OverflowsWithListing (λ w d. lists_r w (index w) d) (shape_at (index r) ss) r old)
      → (v : A ⊎ R) (old : Columns) → overflows_either (λ a. OverflowsWithListing lists_a s a) overflows v old
      → OverflowsWithListing (λ w d. ListsVariant lists_a lists_r w (index_either index w) d) (shape_at (index_either index v) (shape_and s ss)) v old
  either_overflowed overflows rest (inl a) old h = record { datum = h.datum; listing = h.listing; overflows = h.overflows }
  either_overflowed overflows rest (inr r) old h =
      let later = rest r old h in
      record { datum = later.datum; listing = later.listing; overflows = later.overflows }

pub either_taken : {A R : Type 0} (index : R → ℕ) (makes_a : Datum → A → Type 0) (makes_r : ℕ → Datum → R → Type 0) (takes : R → List Datum → List Datum → Type 0)
    → ((r : R) (old new : List Datum) → takes r old new → TakesDatum (λ d w. makes_r (index r) d w) r old new)
    → (v : A ⊎ R) (old new : List Datum) → takes_either (λ a. TakesDatum makes_a a) takes v old new
    → TakesDatum (λ d w. MakesVariant makes_a makes_r (index_either index v) d w) v old new
either_taken index makes_a makes_r takes rest (inl a) old new h = record { datum = h.datum; taken = h.taken; made = h.made }
either_taken index makes_a makes_r takes rest (inr r) old new h =
    let later = rest r old new h in
    record { datum = later.datum; taken = later.taken; made = later.made }

-- ---- values that correspond to payloads

module _ {T V : Type 0} (payload : T → V) where
  pub image_joined : (index : V → ℕ) (lists : V → ℕ → Datum → Type 0) (t : T) {s : Shape} {old new : Columns} → JoinsListing (λ v d. lists v (index v) d) s (payload t) old new
      → JoinsListing (λ u d. lists (payload u) (index (payload u)) d) s t old new
  image_joined index lists t h = record { datum = h.datum; listing = h.listing; joined = h.joined; fits = h.fits }

  pub image_overflowed : (index : V → ℕ) (lists : V → ℕ → Datum → Type 0) (t : T) {s : Shape} {old : Columns} → OverflowsWithListing (λ v d. lists v (index v) d) s (payload t) old
      → OverflowsWithListing (λ u d. lists (payload u) (index (payload u)) d) s t old
  image_overflowed index lists t h = record { datum = h.datum; listing = h.listing; overflows = h.overflows }

  pub image_taken : (makes : ℕ → Datum → V → Type 0) (t : T) {i : ℕ} {old new : List Datum} → TakesDatum (λ d v. makes i d v) (payload t) old new
      → TakesDatum (λ d u. makes i d (payload u)) t old new
  image_taken makes t h = record { datum = h.datum; taken = h.taken; made = h.made }

-- ---- all columns together

pub each_has_payloads : (ss : Shapes) (lists : List Columns) → map emptied lists ≡ bare_columns ss → (first : ℕ) → HasPayloads ss first (all_columns lists)
each_has_payloads no_shapes [] form first = refl
each_has_payloads no_shapes (c ∷ cs) form first = absurd cc
each_has_payloads (shape_and s ss) [] form first = absurd cc
each_has_payloads (shape_and s ss) (c ∷ cs) form first =
    let here : emptied c ≡ written_columns s [] = cc in
    let later : map emptied cs ≡ bare_columns ss = cc in
    first_has_payloads s ss c (all_columns cs) here (each_has_payloads ss cs later) first

-- ---- one group of variants, followed by another

module _ (shapes : Shapes) (first second end : ℕ) (front behind : List Columns) where
  both_counted : first + length front ≡ second → second + length behind ≡ end → first + length (front ++ behind) ≡ end
  both_counted f b = let sum = length-append front behind in omega (arith, sum, f, b)

  pub both_groups : AreColumnsOf shapes first second front → AreColumnsOf shapes second end behind → AreColumnsOf shapes first end (front ++ behind)
  both_groups f b = (
    both_counted f.0 b.0,
    ap (λ cs. cs ++ drop end (bare_columns shapes)) (map-append emptied front behind)
        ∙ append_assoc (map emptied front) (map emptied behind) (drop end (bare_columns shapes))
        ∙ ap (λ cs. map emptied front ++ cs) b.1 ∙ f.1,
  )

-- lists are the same whose first elements are, and those behind
pub first_and : {A : Type 0} {a b : A} {more others : List A} → a ≡ b → more ≡ others → a ∷ more ≡ b ∷ others
first_and first behind = ap₂ (λ x xs. x ∷ xs) first behind

-- ---- the payloads of some variants, which a decoder holds

pub counted_in : {D E : Type 0} (part : E → D) {held : HeldPayloads D} {first end : ℕ} → AreCounted held first end → AreCounted (payloads_in part held) first end
counted_in part counted = record {
  shapes = counted.shapes;
  lists = λ e. counted.lists (part e);
}

module _ {A B E : Type 0} (first_of : E → A) (second_of : E → B) {a : HeldPayloads A} {b : HeldPayloads B} {first second end : ℕ} where
  pub counted_beside : AreCounted a first second → AreCounted b second end → AreCounted (payloads_beside first_of second_of a b) first end
  counted_beside f s = record {
    shapes = let sum = length-append a.shapes b.shapes in let front = f.shapes in let behind = s.shapes in omega (arith, sum, front, behind);
    lists = λ e.
        let sum = length-append (a.lists (first_of e)) (b.lists (second_of e)) in
        let front = f.lists (first_of e) in
        let behind = s.lists (second_of e) in
        omega (arith, sum, front, behind);
  }

module _ (shapes : Shapes) where
  -- the shapes of one group of variants, and of the one behind it
  pub shapes_beside : (first second : ℕ) (front behind : List Shape) → first + length front ≡ second → AreShapesOf shapes first front → AreShapesOf shapes second behind
      → AreShapesOf shapes first (front ++ behind)
  shapes_beside first second [] behind counted f b = subst (λ n. behind ≡ shapes_of_variants n (length behind) shapes) (omega (arith, counted)) b
  shapes_beside first second (s ∷ more) behind counted f b =
      let here : s ≡ shape_at first shapes = cc in
      let later : more ≡ shapes_of_variants (first + 1) (length more) shapes = cc in
      first_and here (shapes_beside (first + 1) second more behind (omega (arith, counted)) later b)

  shape_behind : (among : List Shape) (first place : ℕ) → AreShapesOf shapes first among → place < length among → shape_among place among ≡ shape_at (first + place) shapes
  shape_behind [] first place are below = absurd (omega (arith, below))
  shape_behind (s ∷ more) first zero are below =
      let here : s ≡ shape_at first shapes = cc in here ∙ ap (λ n. shape_at n shapes) (omega arith)
  shape_behind (s ∷ more) first (suc place) are below =
      let later : more ≡ shapes_of_variants (first + 1) (length more) shapes = cc in
      shape_behind more (first + 1) place later (omega (arith, below)) ∙ ap (λ n. shape_at n shapes) (omega arith)

  -- of all variants
  pub shape_of_number : (among : List Shape) → AreShapesOf shapes 0 among → (number : ℕ) → number < length among → shape_among (number - 0) among ≡ shape_at number shapes
  shape_of_number among are number below = shape_behind among 0 (number - 0) are (omega (arith, below)) ∙ ap (λ n. shape_at n shapes) (omega arith)

-- ---- all variants

pub from_zero : (number : ℕ) → number - 0 ≡ number
from_zero number = omega arith

bare_length : (shapes : Shapes) → length (bare_columns shapes) ≡ variant_count shapes
bare_length no_shapes = refl
bare_length (shape_and s ss) = ap suc (bare_length ss)

-- what are the columns of all variants are without entries those of the shapes of the payloads
pub whole_form : (shapes : Shapes) (count : ℕ) (lists : List Columns) → variant_count shapes ≡ count → AreColumnsOf shapes 0 count lists → map emptied lists ≡ bare_columns shapes
whole_form shapes count lists counted are =
    sym (append-nil (map emptied lists))
    ∙ ap (λ cs. map emptied lists ++ cs) (sym (drop_all count (bare_columns shapes) (let size = bare_length shapes in omega (arith, size, counted))))
    ∙ are.1
