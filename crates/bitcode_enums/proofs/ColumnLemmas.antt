-- The columns of variants by place: those of one variant change, those of all are written and cleared.
use Rattle.std.proofs.Common.{◌≡◌, ℕ, zero, suc, ◌+◌, ◌-◌, ◌<◌, ◌≤◌, List, [], ◌∷◌, ◌++◌, length, map, slice_index_or, slice_set, refl, sym, ap, subst, ◌∙◌, append_assoc, arith}
use Rattle.std.proofs.lemmas.List.{length-set, set-append_left, set-append_right, get_or_append_left, get_or-append_right}
use Rattle.bitcode_shapes.specs.Datum.{Datum}
use Rattle.bitcode_shapes.specs.Shape.{Shapes, no_shapes, shape_and}
use Rattle.bitcode_coder.specs.Columns.{Columns, no_columns, two, beside, emptied, CountsFit}
use Rattle.bitcode_coder.specs.Coder.{written_columns, JoinsListing, OverflowsWithListing}
use Rattle.bitcode_coder.specs.Spelling.{columns_bytes}
use Rattle.bitcode_parts.specs.Payloads.{JoinsPayload, OverflowsAtPayload}
use Rattle.bitcode_parts.proofs.ChoiceWritingLemmas.{joins_here, joins_later, overflows_here, overflows_later}
use Rattle.bitcode_enums.specs.ByNumber.{shape_at, columns_at, all_columns, bare_columns, KeepsOthers}
use Rattle.bitcode_enums.specs.ByNumberLaws.{each_has_payloads}
use Rattle.bitcode_enums.specs.Writing.{JoinsVariant, OverflowsWithVariant}
use Rattle.bitcode_enums.proofs.WritingLemmas.{from_first, from_next}

-- ---- one variant

-- the columns of the variant at a place are others
module _ (d : Datum) (new : Columns) where
  pub joins_at : (ss : Shapes) (lists : List Columns) (place : ℕ) → map emptied lists ≡ bare_columns ss → place < length lists
      → new ≡ beside (columns_at place lists) (written_columns (shape_at place ss) (d ∷ [])) → (CountsFit (columns_at place lists) → CountsFit new)
      → (first : ℕ) → JoinsPayload ss first (first + place) d (all_columns lists) (all_columns (slice_set lists place new))
  joins_at ss [] place form below joined fits first = absurd (omega (arith, below))
  joins_at no_shapes (c ∷ cs) place form below joined fits first = absurd cc
  joins_at (shape_and s ss) (c ∷ cs) zero form below joined fits first =
      let later : map emptied cs ≡ bare_columns ss = cc in
      subst (λ n. JoinsPayload (shape_and s ss) first n d (two c (all_columns cs)) (two new (all_columns cs))) (from_first first)
      (joins_here s ss first d c new (all_columns cs) joined fits (each_has_payloads ss cs later (suc first)))
  joins_at (shape_and s ss) (c ∷ cs) (suc place) form below joined fits first =
      let here : emptied c ≡ written_columns s [] = cc in
      let later : map emptied cs ≡ bare_columns ss = cc in
      joins_later s ss first (first + suc place) d c (all_columns cs) (all_columns (slice_set cs place new)) (omega arith) here
      (subst (λ n. JoinsPayload ss (suc first) n d (all_columns cs) (all_columns (slice_set cs place new))) (from_next first place)
      (joins_at ss cs place later (omega (arith, below)) joined fits (suc first)))

pub overflows_at : (d : Datum) (ss : Shapes) (lists : List Columns) (place : ℕ) → map emptied lists ≡ bare_columns ss → place < length lists
    → (CountsFit (beside (columns_at place lists) (written_columns (shape_at place ss) (d ∷ []))) → ⊥)
    → (first : ℕ) → OverflowsAtPayload ss first (first + place) d (all_columns lists)
overflows_at d ss [] place form below over first = absurd (omega (arith, below))
overflows_at d no_shapes (c ∷ cs) place form below over first = absurd cc
overflows_at d (shape_and s ss) (c ∷ cs) zero form below over first =
    subst (λ n. OverflowsAtPayload (shape_and s ss) first n d (two c (all_columns cs))) (from_first first) (overflows_here s ss first d c (all_columns cs) over)
overflows_at d (shape_and s ss) (c ∷ cs) (suc place) form below over first =
    let later : map emptied cs ≡ bare_columns ss = cc in
    overflows_later s ss first (first + suc place) d c (all_columns cs)
    (subst (λ n. OverflowsAtPayload ss (suc first) n d (all_columns cs)) (from_next first place) (overflows_at d ss cs place later (omega (arith, below)) over (suc first)))

module _ {V : Type 0} (index : V → ℕ) (lists_v : V → ℕ → Datum → Type 0) (ss : Shapes) (v : V) (place : ℕ) (at : place ≡ index v) (old : List Columns)
    (form : map emptied old ≡ bare_columns ss) (below : index v < length old) where
  -- the payload was joined to the columns of its variant
  pub joins_numbered : (new : List Columns) → KeepsOthers no_columns place old new
      → JoinsListing (λ w d. lists_v w (index w) d) (shape_at (index v) ss) v (columns_at place old) (columns_at place new)
      → JoinsVariant index lists_v ss v (all_columns old) (all_columns new)
  joins_numbered new others h = record {
    payload = h.datum;
    listing = h.listing;
    joined = λ first.
        subst (λ cs. JoinsPayload ss first (first + index v) h.datum (all_columns old) (all_columns cs)) (sym others)
        (subst (λ n. JoinsPayload ss first (first + index v) h.datum (all_columns old) (all_columns (slice_set old n (columns_at place new)))) (sym at)
        (joins_at h.datum (columns_at place new) ss old (index v) form below
        (subst (λ n. columns_at place new ≡ beside (columns_at n old) (written_columns (shape_at (index v) ss) (h.datum ∷ []))) at h.joined)
        (subst (λ n. CountsFit (columns_at n old) → CountsFit (columns_at place new)) at h.fits) first));
  }

  pub overflows_numbered : OverflowsWithListing (λ w d. lists_v w (index w) d) (shape_at (index v) ss) v (columns_at place old)
      → OverflowsWithVariant index lists_v ss v (all_columns old)
  overflows_numbered h = record {
    payload = h.datum;
    listing = h.listing;
    overflows = λ first.
        overflows_at h.datum ss old (index v) form below
        (subst (λ n. CountsFit (beside (columns_at n old) (written_columns (shape_at (index v) ss) (h.datum ∷ []))) → ⊥) at h.overflows) first;
  }

-- ---- the form of the columns

pub emptied_all : (lists : List Columns) → emptied (all_columns lists) ≡ all_columns (map emptied lists)
emptied_all [] = refl
emptied_all (c ∷ cs) = ap (two (emptied c)) (emptied_all cs)

pub bare_all : (lists : List Columns) → lists ≡ map emptied lists → all_columns lists ≡ emptied (all_columns lists)
bare_all lists is = ap all_columns is ∙ sym (emptied_all lists)

form_set : (lists : List Columns) (place : ℕ) (c : Columns) → emptied c ≡ emptied (columns_at place lists) → map emptied (slice_set lists place c) ≡ map emptied lists
form_set [] place c is = refl
form_set (a ∷ more) zero c is = ap (λ b. b ∷ map emptied more) is
form_set (a ∷ more) (suc place) c is = ap (λ bs. emptied a ∷ bs) (form_set more place c is)

-- one variant's columns have the form that they had, and so have all
pub form_kept : (place : ℕ) (old new : List Columns) → KeepsOthers no_columns place old new → emptied (columns_at place new) ≡ emptied (columns_at place old)
    → map emptied new ≡ map emptied old
form_kept place old new others is = ap (map emptied) others ∙ form_set old place (columns_at place new) is

pub form_all : (old new : List Columns) → map emptied new ≡ map emptied old → emptied (all_columns new) ≡ emptied (all_columns old)
form_all old new is = emptied_all new ∙ ap all_columns is ∙ sym (emptied_all old)

-- ---- all variants, one after the other

pub emptied_columns : (old new : List Columns) → new ≡ map emptied old → all_columns new ≡ emptied (all_columns old)
emptied_columns old new is = ap all_columns is ∙ sym (emptied_all old)

-- the bytes of some variants, and those of the ones behind them
pub bytes_append : (front behind : List Columns) → columns_bytes (all_columns (front ++ behind)) ≡ columns_bytes (all_columns front) ++ columns_bytes (all_columns behind)
bytes_append [] behind = refl
bytes_append (c ∷ cs) behind =
    ap (λ bs. columns_bytes c ++ bs) (bytes_append cs behind)
    ∙ sym (append_assoc (columns_bytes c) (columns_bytes (all_columns cs)) (columns_bytes (all_columns behind)))

-- ---- some variants, and others behind them

module _ {A : Type 0} (none : A) where
  module _ (front behind : List A) (place : ℕ) (among : place < length front) where
    keeps_front : (new : List A) → KeepsOthers none place front new → KeepsOthers none place (front ++ behind) (new ++ behind)
    keeps_front new others =
        let size : length new ≡ length front = ap length others ∙ length-set front place (slice_index_or new place none) in
        ap (λ xs. xs ++ behind) others ∙ sym (set-append_left front behind place (slice_index_or new place none) among)
        ∙ ap (λ x. slice_set (front ++ behind) place x) (sym (get_or_append_left new behind none place (omega (arith, size, among))))

  module _ (front behind : List A) (place : ℕ) (past : length front ≤ place) where
    keeps_behind : (new : List A) → KeepsOthers none (place - length front) behind new → KeepsOthers none place (front ++ behind) (front ++ new)
    keeps_behind new others =
        ap (λ xs. front ++ xs) others ∙ sym (set-append_right front behind (length front) place (slice_index_or new (place - length front) none) refl past)
        ∙ ap (λ x. slice_set (front ++ behind) place x) (sym (get_or-append_right front new (length front) place none refl past))

  module _ (first second : ℕ) (front behind : List A) (sized : first + length front ≡ second) (number : ℕ) where
    among_front : first ≤ number → number < second → number - first < length front
    among_front from below = omega (arith, sized, from, below)

    past_front : second ≤ number → length front ≤ number - first
    past_front past = omega (arith, sized, past)

    behind_place : second ≤ number → (number - first) - length front ≡ number - second
    behind_place past = omega (arith, sized, past)

    pub at_first : first ≤ number → number < second → slice_index_or (front ++ behind) (number - first) none ≡ slice_index_or front (number - first) none
    at_first from below = get_or_append_left front behind none (number - first) (among_front from below)

    pub at_second : second ≤ number → slice_index_or (front ++ behind) (number - first) none ≡ slice_index_or behind (number - second) none
    at_second past =
        get_or-append_right front behind (length front) (number - first) none refl (past_front past)
        ∙ ap (λ n. slice_index_or behind n none) (behind_place past)

    pub keeps_first : first ≤ number → number < second → (new : List A) → KeepsOthers none (number - first) front new
        → KeepsOthers none (number - first) (front ++ behind) (new ++ behind)
    keeps_first from below new others = keeps_front front behind (number - first) (among_front from below) new others

    pub keeps_second : second ≤ number → (new : List A) → KeepsOthers none (number - second) behind new
        → KeepsOthers none (number - first) (front ++ behind) (front ++ new)
    keeps_second past new others =
        keeps_behind front behind (number - first) (past_front past) new (subst (λ n. KeepsOthers none n behind new) (sym (behind_place past)) others)
