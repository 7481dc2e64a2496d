-- The payloads of one variant after another are read and made, and dealt as choices.
use Rattle.std.proofs.Common.{◌≡◌, ℕ, zero, suc, ◌<◌, ◌≤◌, Some, List, [], ◌∷◌, ◌++◌, length, replicate, slice_get, All, refl, sym, ap, subst, ◌∙◌, arith, inl, inr, get_or-set_same, length-set, length-append}
use Rattle.std.specs.Prelude.{slice_index_or, slice_set}
use Rattle.std.proofs.lemmas.List.{length-replicate, get_or-set_other}
use Rattle.bitcode_columns.specs.Histogram.{count_of}
use Rattle.bitcode_columns.specs.Reading.{Reads}
use Rattle.bitcode_columns.specs.VariantColumn.{SpellsVariants}
use Rattle.bitcode_shapes.specs.Datum.{Datum}
use Rattle.bitcode_shapes.specs.Shape.{Shapes, choice_shape, variant_count}
use Rattle.bitcode_coder.specs.Spelling.{Spells}
use Rattle.bitcode_parts.specs.Payloads.{payloads_of, choices_of}
use Rattle.bitcode_enums.specs.ByNumber.{shape_at, KeepsOthers}
use Rattle.bitcode_enums.proofs.PayloadReadingLemmas.{ReadTo, read_none, read_next, read_all}
use Rattle.bitcode_enums.proofs.ReadingLemmas.{reads_enum}
use Rattle.bitcode_schema.specs.Forms.{Content}
use Rattle.bitcode_schema.specs.Making.{MakesData, AreDealt}
use Rattle.bitcode_schema.specs.Parts.{choice_under}
use Rattle.bitcode_schema.specs.Views.{Hold}
use Rattle.bitcode_schema.proofs.DealLemmas.{cases_same, dealt_held}
use Rattle.bitcode_schema.proofs.ChoiceWritingLemmas.{below_there}
use Rattle.bitcode_schema.proofs.HoldLemmas.{some_same}
use Rattle.bitcode_untyped.specs.declared.value.Value.{Value}

at_end : (values : List (List Value)) (one : List Value) (n : ℕ) → n ≡ length values → slice_index_or (values ++ one ∷ []) n [] ≡ one
at_end [] one n is = ap (λ m. slice_index_or (one ∷ []) m []) is
at_end (v ∷ values) one n is = ap (λ m. slice_index_or (v ∷ values ++ one ∷ []) m []) is ∙ at_end values one (length values) refl

before_end : (values : List (List Value)) (one : List Value) (n : ℕ) → n < length values → slice_index_or (values ++ one ∷ []) n [] ≡ slice_index_or values n []
before_end [] one n lt = absurd (omega (arith, lt))
before_end (v ∷ values) one zero lt = refl
before_end (v ∷ values) one (suc n) lt = before_end values one n (let h : suc n < suc (length values) = lt in omega arith)

module _ (ss : Shapes) (contents : List Content) (count : ℕ) (entries middle : List ℕ) where
  -- the payloads of the variants before one were made
  pub record PayloadsTo (variant : ℕ) (now : List ℕ) (values : List (List Value)) : Type 0 where
    pub lists : List (List Datum)
    pub size : length lists ≡ count
    pub many : length values ≡ variant
    pub read : ReadTo ss entries middle variant lists now
    pub held : (i : ℕ) (content : Content) → i < variant → slice_get contents i ≡ Some content → Hold content (slice_index_or values i []) (payloads_of i lists)

  pub payloads_none : PayloadsTo 0 middle []
  payloads_none = record {
    lists = replicate count [];
    size = length-replicate count [];
    many = refl;
    read = read_none ss entries middle (replicate count []);
    held = λ i content lt is. absurd (omega (arith, lt));
  }

  module _ (known : variant_count ss ≡ count) (among : length contents ≡ count) where
    pub payloads_next : (variant : ℕ) (now new : List ℕ) (values : List (List Value)) (one : List Value) (next : ℕ) → next ≡ suc variant → variant < count
        → (c : Content) → slice_get contents variant ≡ Some c → PayloadsTo variant now values → MakesData (shape_at variant ss) c (count_of variant entries) now new one
        → PayloadsTo next new (values ++ one ∷ [])
    payloads_next variant now new values one next is below c there before m =
        let lists = slice_set before.lists variant m.found in
        let within : variant < length before.lists = subst (λ n. variant < n) (sym before.size) below in
        let here : payloads_of variant lists ≡ m.found = get_or-set_same before.lists variant m.found [] within in
        let others : KeepsOthers [] variant before.lists lists = ap (slice_set before.lists variant) (sym here) in
        subst (λ n. PayloadsTo n new (values ++ one ∷ [])) (sym is)
        (record {
          lists = lists;
          size = length-set before.lists variant m.found ∙ before.size;
          many = omega (arith, length-append values (one ∷ []), before.many);
          read = read_next ss entries middle variant before.lists now before.read (subst (λ n. variant < n) (sym known) below) lists new within others
              (subst (λ ds. Reads (Spells (shape_at variant ss)) (count_of variant entries) now ds new) (sym here) m.read);
          held = λ i content lt at.
              elim (cases_same i variant) [
                | inl same ↦
                    let mine : c ≡ content = some_same (sym there ∙ ap (slice_get contents) (sym same) ∙ at) in
                    subst (λ n. Hold content (slice_index_or (values ++ one ∷ []) n []) (payloads_of n lists)) (sym same)
                    (subst (λ xs. Hold content xs (payloads_of variant lists)) (sym (at_end values one variant (sym before.many)))
                    (subst (Hold content one) (sym here) (subst (λ d. Hold d one m.found) mine m.made)))
                | inr other ↦
                    let less : i < variant = omega (arith, lt, other) in
                    subst (λ xs. Hold content xs (payloads_of i lists)) (sym (before_end values one i (omega (arith, less, before.many))))
                    (subst (Hold content (slice_index_or values i [])) (sym (get_or-set_other before.lists variant i m.found [] other))
                    (before.held i content less at))
              ];
        })

    -- the choices hold the data that were read
    pub choices_made : (variant : ℕ) (now : List ℕ) (values : List (List Value)) (choices : List (ℕ × Value)) (k : ℕ) (old : List ℕ)
        → PayloadsTo variant now values → count ≤ variant → length values ≡ count → All (λ v. v < length contents) entries
        → Reads (SpellsVariants count) k old entries middle → AreDealt entries values choices
        → MakesData (choice_shape ss) (choice_under contents) k old now choices
    choices_made variant now values choices k old done past many below column dealt =
        let all =
        read_all ss entries middle variant done.lists now done.read (subst (λ n. n ≤ variant) (sym known) past) (subst (λ n. n ≤ variant) (sym done.size) past) in
        record {
          found = choices_of entries done.lists;
          read = reads_enum ss count k old known entries middle column done.lists now all;
          made = dealt_held contents entries values done.lists choices below (many ∙ sym among) (done.size ∙ sym among)
              (λ i content at. done.held i content
              (let inside = below_there contents i content at in omega (arith, inside, among, past)) at) dealt;
        }
