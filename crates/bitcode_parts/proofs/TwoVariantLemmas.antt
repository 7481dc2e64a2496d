-- An enum of two variants: what the coders of its variants and payloads do makes up what its own coder does. Each lemma
-- closes one goal that the check leaves of such an enum's `read` or `encode`, from the clauses of the calls. The
-- values stand for those of A ⊎ B. (Of more variants the same follows by the lemmas that these cite.)
use Rattle.std.proofs.Common.{◌≡◌, ℕ, List, [], ◌∷◌, ◌++◌, get_or, map, refl, sym, ◌∙◌, ap, subst, inl, inr, lit<, Result, Ok, Err, IfErr}
use Rattle.std.specs.Prelude.{◌⊎◌}
use Rattle.std.specs.Result.{IsErrAnd, OnErr}
use Rattle.bitcode_memory.specs.declared.error.Error.{Error}
use Rattle.bitcode_columns.specs.Histogram.{AreCounts}
use Rattle.bitcode_columns.specs.Reading.{Reads, IsEndOf}
use Rattle.bitcode_columns.specs.VariantColumn.{SpellsVariants}
use Rattle.bitcode_shapes.specs.Datum.{Datum, choice}
use Rattle.bitcode_shapes.specs.Shape.{Shape, choice_shape, shape_and, no_shapes}
use Rattle.bitcode_shapes.specs.Choices.{ListsChoice, ListsLast, ListsVariant}
use Rattle.bitcode_coder.specs.Columns.{Columns, no_columns, one, two, variants, emptied}
use Rattle.bitcode_coder.specs.Faults.{NamesVariantsFault}
use Rattle.bitcode_coder.specs.FirstFault.{IsFirstFault}
use Rattle.bitcode_coder.specs.Spelling.{Spells, natural}
use Rattle.bitcode_coder.specs.Coder.{written_columns, IsReadingRefusal, JoinsListing, OverflowsWithListing}
use Rattle.bitcode_coder.proofs.LengthPartLemmas.{ends_behind_read}
use Rattle.bitcode_parts.specs.Payloads.{choices_of}
use Rattle.bitcode_parts.proofs.ChoiceReadingLemmas.{reads_choices, refuses_variants, refuses_payloads, refuses_first, refuses_later}
use Rattle.bitcode_parts.proofs.ChoiceWritingLemmas.{joins_here, joins_later, joins_choice, overflows_here, overflows_later, overflows_choice}

-- ---- read

-- the variants were refused
pub variants_stopped : {T : Type 0} (s u : Shape) (k : ℕ) (old : List ℕ) (e : Error) (r : Result T Error) → IsErrAnd r (λ f. f ≡ e) → NamesVariantsFault 2 e.reason k old
    → IfErr r (λ f. IsReadingRefusal (choice_shape (shape_and s (shape_and u no_shapes))) f.reason k old)
variants_stopped s u k old e (Ok x) stopped fault = absurd stopped
variants_stopped s u k old e (Err f) stopped fault =
    subst (λ (x : Error). IsReadingRefusal (choice_shape (shape_and s (shape_and u no_shapes))) x.reason k old) (sym stopped)
    (refuses_variants (shape_and s (shape_and u no_shapes)) e.reason k old fault.named)

pub variants_exact : {T : Type 0} (s u : Shape) (k : ℕ) (old : List ℕ) (e : Error) (r : Result T Error) → IsErrAnd r (λ f. f ≡ e) → NamesVariantsFault 2 e.reason k old
    → IfErr r (λ f. IsFirstFault (choice_shape (shape_and s (shape_and u no_shapes))) f.reason k old)
variants_exact s u k old e (Ok x) stopped fault = absurd stopped
variants_exact s u k old e (Err f) stopped fault =
    subst (λ (x : Error). IsFirstFault (choice_shape (shape_and s (shape_and u no_shapes))) x.reason k old) (sym stopped) (inl fault)

-- the variants were read, and counted
module _ (s u : Shape) {k k0 : ℕ} {old middle entries counts : List ℕ} (read : Reads (SpellsVariants 2) k old entries middle)
    (are : AreCounts 2 entries counts) (first_count : k0 ≡ get_or counts 0 0) where
  -- the payloads of the first variant were refused
  pub first_stopped : {T : Type 0} (e : Error) (r : Result T Error) → IsErrAnd r (λ f. f ≡ e) → IsReadingRefusal s e.reason k0 middle
      → IfErr r (λ f. IsReadingRefusal (choice_shape (shape_and s (shape_and u no_shapes))) f.reason k old)
  first_stopped e (Ok x) stopped refused = absurd stopped
  first_stopped e (Err f) stopped refused =
      subst (λ (x : Error). IsReadingRefusal (choice_shape (shape_and s (shape_and u no_shapes))) x.reason k old) (sym stopped)
      (refuses_payloads (shape_and s (shape_and u no_shapes)) e.reason read
      (refuses_first s (shape_and u no_shapes) 0 entries e.reason (subst (λ n. IsReadingRefusal s e.reason n middle) (first_count ∙ are.each 0 (lit< tt)) refused)))

  pub first_exact : {T : Type 0} (e : Error) (r : Result T Error) → IsErrAnd r (λ f. f ≡ e) → IsFirstFault s e.reason k0 middle
      → IfErr r (λ f. IsFirstFault (choice_shape (shape_and s (shape_and u no_shapes))) f.reason k old)
  first_exact e (Ok x) stopped fault = absurd stopped
  first_exact e (Err f) stopped fault =
      subst (λ (x : Error). IsFirstFault (choice_shape (shape_and s (shape_and u no_shapes))) x.reason k old) (sym stopped)
      (inr (record {
        entries = entries;
        rest = middle;
        read = read;
        fault = inl (subst (λ n. IsFirstFault s e.reason n middle) (first_count ∙ are.each 0 (lit< tt)) fault);
      }))

  -- they were read
  module _ {k1 : ℕ} {left : List ℕ} {ds : List Datum} (first : Reads (Spells s) k0 middle ds left) (second_count : k1 ≡ get_or counts 1 0) where
    pub choice_read : (new : List ℕ) (es : List Datum) → Reads (Spells u) k1 left es new
        → Reads (Spells (choice_shape (shape_and s (shape_and u no_shapes)))) k old (choices_of entries (ds ∷ es ∷ [])) new
    choice_read new es second =
        reads_choices (shape_and s (shape_and u no_shapes)) (ds ∷ es ∷ []) new read (record {
          middle = left;
          first = subst (λ n. Reads (Spells s) n middle ds left) (first_count ∙ are.each 0 (lit< tt)) first;
          behind = record { middle = new; first = subst (λ n. Reads (Spells u) n left es new) (second_count ∙ are.each 1 (lit< tt)) second; behind = refl };
        })

    -- the payloads of the second variant were refused
    pub second_stopped : {T : Type 0} (e : Error) (r : Result T Error) → IsErrAnd r (λ f. f ≡ e) → IsReadingRefusal u e.reason k1 left
        → IfErr r (λ f. IsReadingRefusal (choice_shape (shape_and s (shape_and u no_shapes))) f.reason k old)
    second_stopped e (Ok x) stopped refused = absurd stopped
    second_stopped e (Err f) stopped refused =
        subst (λ (x : Error). IsReadingRefusal (choice_shape (shape_and s (shape_and u no_shapes))) x.reason k old) (sym stopped)
        (refuses_payloads (shape_and s (shape_and u no_shapes)) e.reason read
        (refuses_later s (shape_and u no_shapes) 0 entries e.reason (subst (λ n. Reads (Spells s) n middle ds left) (first_count ∙ are.each 0 (lit< tt)) first)
        (refuses_first u no_shapes 1 entries e.reason (subst (λ n. IsReadingRefusal u e.reason n left) (second_count ∙ are.each 1 (lit< tt)) refused))))

    pub second_exact : {T : Type 0} (e : Error) (r : Result T Error) → IsErrAnd r (λ f. f ≡ e) → IsFirstFault u e.reason k1 left
        → IfErr r (λ f. IsFirstFault (choice_shape (shape_and s (shape_and u no_shapes))) f.reason k old)
    second_exact e (Ok x) stopped fault = absurd stopped
    second_exact e (Err f) stopped fault =
        subst (λ (x : Error). IsFirstFault (choice_shape (shape_and s (shape_and u no_shapes))) x.reason k old) (sym stopped)
        (inr (record {
          entries = entries;
          rest = middle;
          read = read;
          fault = inr (record {
            entries = ds;
            rest = left;
            read = subst (λ n. Reads (Spells s) n middle ds left) (first_count ∙ are.each 0 (lit< tt)) first;
            fault = inl (subst (λ n. IsFirstFault u e.reason n left) (second_count ∙ are.each 1 (lit< tt)) fault);
          });
        }))

-- what is left behind the variants and what stands behind the first payloads are ends of the input
pub first_rest : {T : Type 0} {k : ℕ} {old middle entries : List ℕ} (new : List ℕ) (r : Result T Error) → Reads (SpellsVariants 2) k old entries middle
    → IsEndOf middle new → OnErr r (IsEndOf old new)
first_rest new (Ok x) read rest = tt
first_rest new (Err e) read rest = ends_behind_read new read rest

pub choice_rest : {T : Type 0} {s : Shape} {k k0 : ℕ} {old middle left entries : List ℕ} {ds : List Datum} (new : List ℕ) (r : Result T Error)
    → Reads (SpellsVariants 2) k old entries middle → Reads (Spells s) k0 middle ds left → IsEndOf left new → OnErr r (IsEndOf old new)
choice_rest new (Ok x) read first rest = tt
choice_rest new (Err e) read first rest = ends_behind_read new read (ends_behind_read new first rest)

-- ---- encode

module _ {A B : Type 0} (lists_a : A → Datum → Type 0) (lists_b : B → Datum → Type 0) (v : A ⊎ B) (d : Datum) where
  first_listing : (x : A) → v ≡ inl x → lists_a x d → ListsChoice (ListsVariant lists_a (ListsLast lists_b)) v (choice 0 d)
  first_listing x is l = record { index = 0; payload = d; is = refl; lists_payload = subst (λ w. ListsVariant lists_a (ListsLast lists_b) w 0 d) (sym is) l }

  second_listing : (y : B) → v ≡ inr y → lists_b y d → ListsChoice (ListsVariant lists_a (ListsLast lists_b)) v (choice 1 d)
  second_listing y is l = record { index = 1; payload = d; is = refl; lists_payload = subst (λ w. ListsVariant lists_a (ListsLast lists_b) w 1 d) (sym is) l }

module _ {T A B : Type 0} (variant : T → A ⊎ B) {lists_a : A → Datum → Type 0} {lists_b : B → Datum → Type 0} {s u : Shape} {t : T} {a b : Columns} (entries : List ℕ) where
  -- the value is of the first variant
  module _ {x : A} (is : variant t ≡ inl x) where
    pub first_joins : {c : Columns} {more : List ℕ} → emptied b ≡ written_columns u [] → more ≡ entries ++ 0 ∷ [] → JoinsListing lists_a s x a c
        → JoinsListing (λ v d. ListsChoice (ListsVariant lists_a (ListsLast lists_b)) (variant v) d) (choice_shape (shape_and s (shape_and u no_shapes))) t
        (two (one (variants 2) (map natural entries)) (two a (two b no_columns))) (two (one (variants 2) (map natural more)) (two c (two b no_columns)))
    first_joins {c} {more} form pushed joins =
        joins_choice (λ v d. ListsChoice (ListsVariant lists_a (ListsLast lists_b)) (variant v) d) (shape_and s (shape_and u no_shapes)) t 0 joins.datum
        (first_listing lists_a lists_b (variant t) joins.datum x is joins.listing) entries more (two a (two b no_columns)) (two c (two b no_columns)) pushed
        (joins_here s (shape_and u no_shapes) 0 joins.datum a c (two b no_columns) joins.joined joins.fits (ap (λ y. two y no_columns) form))

    pub first_overflows : OverflowsWithListing lists_a s x a
        → OverflowsWithListing (λ v d. ListsChoice (ListsVariant lists_a (ListsLast lists_b)) (variant v) d) (choice_shape (shape_and s (shape_and u no_shapes))) t
        (two (one (variants 2) (map natural entries)) (two a (two b no_columns)))
    first_overflows overflows =
        overflows_choice (λ v d. ListsChoice (ListsVariant lists_a (ListsLast lists_b)) (variant v) d) (shape_and s (shape_and u no_shapes)) t 0 overflows.datum
        (first_listing lists_a lists_b (variant t) overflows.datum x is overflows.listing) entries (two a (two b no_columns))
        (overflows_here s (shape_and u no_shapes) 0 overflows.datum a (two b no_columns) overflows.overflows)

  -- the value is of the second variant
  module _ {y : B} (is : variant t ≡ inr y) where
    pub second_joins : {c : Columns} {more : List ℕ} → emptied a ≡ written_columns s [] → more ≡ entries ++ 1 ∷ [] → JoinsListing lists_b u y b c
        → JoinsListing (λ v d. ListsChoice (ListsVariant lists_a (ListsLast lists_b)) (variant v) d) (choice_shape (shape_and s (shape_and u no_shapes))) t
        (two (one (variants 2) (map natural entries)) (two a (two b no_columns))) (two (one (variants 2) (map natural more)) (two a (two c no_columns)))
    second_joins {c} {more} form pushed joins =
        joins_choice (λ v d. ListsChoice (ListsVariant lists_a (ListsLast lists_b)) (variant v) d) (shape_and s (shape_and u no_shapes)) t 1 joins.datum
        (second_listing lists_a lists_b (variant t) joins.datum y is joins.listing) entries more (two a (two b no_columns)) (two a (two c no_columns)) pushed
        (joins_later s (shape_and u no_shapes) 0 1 joins.datum a (two b no_columns) (two c no_columns) (lit< tt) form
        (joins_here u no_shapes 1 joins.datum b c no_columns joins.joined joins.fits refl))

    pub second_overflows : OverflowsWithListing lists_b u y b
        → OverflowsWithListing (λ v d. ListsChoice (ListsVariant lists_a (ListsLast lists_b)) (variant v) d) (choice_shape (shape_and s (shape_and u no_shapes))) t
        (two (one (variants 2) (map natural entries)) (two a (two b no_columns)))
    second_overflows overflows =
        overflows_choice (λ v d. ListsChoice (ListsVariant lists_a (ListsLast lists_b)) (variant v) d) (shape_and s (shape_and u no_shapes)) t 1 overflows.datum
        (second_listing lists_a lists_b (variant t) overflows.datum y is overflows.listing) entries (two a (two b no_columns))
        (overflows_later s (shape_and u no_shapes) 0 1 overflows.datum a (two b no_columns) (overflows_here u no_shapes 1 overflows.datum b no_columns overflows.overflows))
