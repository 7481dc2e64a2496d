-- Lists, maps and arrays are read as their lengths and elements, and texts with a limit as texts and their lengths.
use Rattle.std.proofs.Common.{◌≡◌, ℕ, ◌*◌, ◌^◌, ◌<◌, ◌≤◌, Bool, ◌&&◌, IsTrue, Option, Some, None, List, ◌++◌, sum, refl, sym, subst, inl, inr}
use Rattle.std.specs.Prelude.{◌↔◌}
use Rattle.bitcode_memory.specs.declared.error.Reason.{Reason}
use Rattle.bitcode_memory.specs.declared.error.Reason.TheVariants.{LengthOverflow, InvalidArrayVec, InvalidArrayString}
use Rattle.bitcode_columns.specs.Reading.{Reads}
use Rattle.bitcode_shapes.specs.Shape.{Shape, seq_shape, map_shape, pair_shape, array_shape, text_shape}
use Rattle.bitcode_coder.specs.FirstFault.{ListsFault, IsFirstFault}
use Rattle.bitcode_coder.specs.LengthColumn.{SpellsLengths, KeepsCap, length_bytes, lengths_from}
use Rattle.bitcode_coder.specs.LengthParts.{NamesLengthFault, ReadsParts}
use Rattle.bitcode_coder.proofs.LengthRefusalLemmas.{cap_kept}
use Rattle.bitcode_coder.proofs.LimitedTextLemmas.{limited_read, limit_named}
use Rattle.bitcode_parts.specs.Arrays.{arrays_of}
use Rattle.bitcode_parts.specs.Lists.{lists_of}
use Rattle.bitcode_parts.proofs.ArrayReadingLemmas.{reads_arrays, judges_arrays}
use Rattle.bitcode_parts.proofs.ListLemmas.{reads_sequence, judges_sequence, refuses_cap}
use Rattle.bitcode_derive.proofs.MapReadingLemmas.{reads_map}
use Rattle.bitcode_schema.specs.Reading.{ReadsData}

module _ (k : ℕ) (strict : Bool) where
  -- ---- lists

  -- a fault of lists is one of lists with a limit
  pub lists_fault : (capacity : Option ℕ) (s : Shape) (reason : Reason) (old : List ℕ) → ListsFault (IsFirstFault s) reason k old
      → IsFirstFault (seq_shape capacity s) reason k old
  lists_fault None s reason old fault = fault
  lists_fault (Some limit) s reason old fault = inl fault

  pub lengths_fault : (capacity : Option ℕ) (s : Shape) (reason : Reason) (old : List ℕ) → NamesLengthFault reason k old
      → IsFirstFault (seq_shape capacity s) reason k old
  lengths_fault capacity s reason old fault = lists_fault capacity s reason old (inl fault)

  module _ (s : Shape) {old middle ns : List ℕ} (lengths : Reads (SpellsLengths None) k old ns middle) where
    pub elements_fault : (capacity : Option ℕ) (reason : Reason) → IsFirstFault s reason (sum ns) middle → IsFirstFault (seq_shape capacity s) reason k old
    elements_fault capacity reason fault =
        lists_fault capacity s reason old (inr (record { entries = ns; rest = middle; read = lengths; fault = fault }))

    module _ {a : Bool} (told : IsTrue strict → IsTrue a ↔ (old ≡ length_bytes ns ++ middle)) {new : List ℕ} {b : Bool}
        (elements : ReadsData s (sum ns) strict middle new b) where
      pub reads_lists : ReadsData (seq_shape None s) k strict old new (a && b)
      reads_lists = record {
        found = lists_of ns elements.found;
        read = reads_sequence None s k new elements.found lengths elements.read;
        judged = λ asked. judges_sequence None s k new elements.found a b lengths elements.read (told asked) (elements.judged asked);
      }

      module _ {short large : List ℕ} (is : ns ≡ lengths_from short large) (parts : ReadsParts k old short large middle) where
        pub reads_capped : (capacity : Option ℕ) → KeepsCap capacity short ns → ReadsData (seq_shape capacity s) k strict old new (a && b)
        reads_capped capacity keeps =
            let capped : Reads (SpellsLengths capacity) k old ns middle = record {
              size = lengths.size;
              piece = lengths.piece;
              whole = lengths.whole;
              spelled = cap_kept capacity k old short large middle parts (subst (KeepsCap capacity short) is keeps) lengths;
            } in
            record {
              found = lists_of ns elements.found;
              read = reads_sequence capacity s k new elements.found capped elements.read;
              judged = λ asked. judges_sequence capacity s k new elements.found a b lengths elements.read (told asked) (elements.judged asked);
            }

        pub lists_over : (capacity : Option ℕ) → (KeepsCap capacity short ns → ⊥) → IsFirstFault (seq_shape capacity s) InvalidArrayVec k old
        lists_over None broken = absurd (broken tt)
        lists_over (Some limit) broken = inr (record {
          is = refl;
          lists = reads_lists.found;
          rest = new;
          read = reads_lists.read;
          over = refuses_cap (Some limit) s k old short large middle parts (λ keeps. broken (subst (KeepsCap (Some limit) short) (sym is) keeps));
        })

  -- ---- maps are read as lists of pairs

  pub reads_maps : (s t : Shape) {old new : List ℕ} {a : Bool} → ReadsData (seq_shape None (pair_shape s t)) k strict old new a
      → ReadsData (map_shape s t) k strict old new a
  reads_maps s t {old} {new} lists = record {
    found = lists.found;
    read = reads_map s t k old new lists.found lists.read;
    judged = λ asked. lists.judged asked;
  }

  pub maps_fault : (s t : Shape) (reason : Reason) (old : List ℕ) → IsFirstFault (seq_shape None (pair_shape s t)) reason k old
      → IsFirstFault (map_shape s t) reason k old
  maps_fault s t reason old fault = fault

  -- ---- arrays

  pub reads_all : (s : Shape) (size : ℕ) {old new : List ℕ} {a : Bool} → k * size < 2 ^ 64 → ReadsData s (k * size) strict old new a
      → ReadsData (array_shape size s) k strict old new a
  reads_all s size {old} {new} {a} few elements = record {
    found = arrays_of size k elements.found;
    read = reads_arrays size s k old new elements.found few elements.read;
    judged = λ asked. judges_arrays size s k old new elements.found elements.read a (elements.judged asked);
  }

  pub fault_of_elements : (s : Shape) (size : ℕ) (reason : Reason) (old : List ℕ) → k * size < 2 ^ 64 → IsFirstFault s reason (k * size) old
      → IsFirstFault (array_shape size s) reason k old
  fault_of_elements s size reason old few fault = inr (few, fault)

  pub arrays_over : (s : Shape) (size : ℕ) (reason : Reason) (old : List ℕ) → 2 ^ 64 ≤ k * size → reason ≡ LengthOverflow
      → IsFirstFault (array_shape size s) reason k old
  arrays_over s size reason old many is = inl (many, is)

  -- ---- texts with a limit

  module _ (limit : ℕ) {old new : List ℕ} {w : Bool} (texts : ReadsData (text_shape None) k strict old new w)
      {middle short large : List ℕ} (parts : ReadsParts k old short large middle) where
    pub reads_texts : KeepsCap (Some limit) short (lengths_from short large) → ReadsData (text_shape (Some limit)) k strict old new w
    reads_texts keeps = record {
      found = texts.found;
      read = limited_read limit k old short large middle parts keeps texts.read;
      judged = λ asked. texts.judged asked;
    }

    pub texts_over : (KeepsCap (Some limit) short (lengths_from short large) → ⊥) → IsFirstFault (text_shape (Some limit)) InvalidArrayString k old
    texts_over broken = limit_named texts.read parts broken
