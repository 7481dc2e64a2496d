-- Choices are read as their variants, and then the payloads of one variant after another.
use Rattle.std.proofs.Common.{◌≡◌, ℕ, suc, ◌<◌, ◌≤◌, Bool, ◌&&◌, IsTrue, List, [], ◌∷◌, length, replicate, refl, sym, ap, subst, ◌∙◌, get_or-set_same, length-set}
use Rattle.std.specs.Prelude.{◌↔◌, ◌++◌, slice_set}
use Rattle.std.proofs.lemmas.List.{length-replicate}
use Rattle.bitcode_memory.specs.declared.error.Reason.{Reason}
use Rattle.bitcode_columns.specs.Histogram.{count_of}
use Rattle.bitcode_columns.specs.Reading.{Reads}
use Rattle.bitcode_columns.specs.VariantColumn.{SpellsVariants, variant_text}
use Rattle.bitcode_shapes.specs.Datum.{Datum}
use Rattle.bitcode_shapes.specs.Shape.{Shape, Shapes, choice_shape, variant_count}
use Rattle.bitcode_coder.specs.FirstFault.{IsFirstFault}
use Rattle.bitcode_coder.specs.Spelling.{Spells}
use Rattle.bitcode_coder.specs.Strict.{JudgesData}
use Rattle.bitcode_parts.specs.Payloads.{payloads_of, choices_of}
use Rattle.bitcode_enums.specs.ByNumber.{shape_at, KeepsOthers}
use Rattle.bitcode_enums.proofs.PayloadReadingLemmas.{ReadTo, read_none, fault_there, read_next, read_all}
use Rattle.bitcode_enums.proofs.ReadingLemmas.{reads_enum, fault_of_payloads}
use Rattle.bitcode_enums.proofs.StrictLemmas.{JudgedTo, judged_none, judged_next, judged_all}
use Rattle.bitcode_schema.specs.Forms.{shapes_of}
use Rattle.bitcode_schema.specs.Reading.{ReadsData}

pub count_shapes : (ss : List Shape) → variant_count (shapes_of ss) ≡ length ss
count_shapes [] = refl
count_shapes (s ∷ ss) = ap suc (count_shapes ss)

module _ (ss : Shapes) (count : ℕ) (strict : Bool) (entries middle : List ℕ) (variants : Bool) where
  -- the payloads of the variants before one were read
  pub record ChoicesTo (variant : ℕ) (written : Bool) (now : List ℕ) : Type 0 where
    pub lists : List (List Datum)
    pub size : length lists ≡ count
    pub read : ReadTo ss entries middle variant lists now
    pub judged : IsTrue strict → JudgedTo ss middle variants variant lists written now

  pub choices_none : ChoicesTo 0 variants middle
  choices_none = record {
    lists = replicate count [];
    size = length-replicate count [];
    read = read_none ss entries middle (replicate count []);
    judged = λ asked. judged_none ss middle variants (replicate count []);
  }

  module _ (known : variant_count ss ≡ count) (variant : ℕ) (written : Bool) (now : List ℕ) (before : ChoicesTo variant written now) (below : variant < count) where
    pub choices_next : (answer : Bool) (new : List ℕ) (next : ℕ) → next ≡ suc variant
        → ReadsData (shape_at variant ss) (count_of variant entries) strict now new answer → ChoicesTo next (written && answer) new
    choices_next answer new next is passed =
        let lists = slice_set before.lists variant passed.found in
        let there : variant < length before.lists = subst (λ n. variant < n) (sym before.size) below in
        let here : payloads_of variant lists ≡ passed.found = get_or-set_same before.lists variant passed.found [] there in
        let others : KeepsOthers [] variant before.lists lists = ap (slice_set before.lists variant) (sym here) in
        let among : variant < variant_count ss = subst (λ n. variant < n) (sym known) below in
        subst (λ n. ChoicesTo n (written && answer) new) (sym is)
        (record {
          lists = lists;
          size = length-set before.lists variant passed.found ∙ before.size;
          read = read_next ss entries middle variant before.lists now before.read among lists new there others
              (subst (λ ds. Reads (Spells (shape_at variant ss)) (count_of variant entries) now ds new) (sym here) passed.read);
          judged = λ asked. judged_next ss middle variants variant before.lists written now (before.judged asked) among lists new there others answer
              (subst (λ ds. JudgesData (shape_at variant ss) ds answer now new) (sym here) (passed.judged asked));
        })

    pub choices_fault : (k : ℕ) (old : List ℕ) → Reads (SpellsVariants count) k old entries middle → (reason : Reason)
        → IsFirstFault (shape_at variant ss) reason (count_of variant entries) now → IsFirstFault (choice_shape ss) reason k old
    choices_fault k old column reason fault =
        fault_of_payloads ss count k old known entries middle column reason
        (fault_there ss entries middle variant before.lists now before.read (subst (λ n. variant < n) (sym known) below) reason fault)

  pub choices_all : variant_count ss ≡ count → (variant : ℕ) (written : Bool) (now : List ℕ) → ChoicesTo variant written now → count ≤ variant
      → (k : ℕ) (old : List ℕ) → Reads (SpellsVariants count) k old entries middle
      → (IsTrue strict → IsTrue variants ↔ (old ≡ variant_text count entries ++ middle)) → ReadsData (choice_shape ss) k strict old now written
  choices_all known variant written now done past k old column told =
      let among : variant_count ss ≤ variant = subst (λ n. n ≤ variant) (sym known) past in
      let few : length done.lists ≤ variant = subst (λ n. n ≤ variant) (sym done.size) past in
      let all = read_all ss entries middle variant done.lists now done.read among few in
      record {
        found = choices_of entries done.lists;
        read = reads_enum ss count k old known entries middle column done.lists now all;
        judged = λ asked. judged_all ss middle variants variant done.lists written now (done.judged asked) among few count known old entries column all (told asked);
      }
