-- Which fault a reader of texts reports.
use Rattle.std.specs.Prelude.{◌≡◌, ℕ, ◌<◌, Some, None, List, ◌++◌, length, sum, All, IsUtf8}
use Rattle.bitcode_memory.specs.declared.error.Reason.{Reason}
use Rattle.bitcode_memory.specs.declared.error.Reason.TheVariants.{Eof, InvalidUtf8, InvalidArrayString}
use Rattle.bitcode_columns.specs.Reading.{Reads}
use Rattle.bitcode_shapes.specs.Datum.{Datum}
use Rattle.bitcode_shapes.specs.Shape.{text_shape}
use Rattle.bitcode_coder.specs.Cutting.{cut}
use Rattle.bitcode_coder.specs.LengthColumn.{SpellsLengths, KeepsCap, lengths_from}
use Rattle.bitcode_coder.specs.LengthParts.{ReadsParts, NamesLengthFault}
use Rattle.bitcode_coder.specs.Spelling.{Spells}

-- An error reports the fault of the lengths; if they can be read, that fewer bytes follow than their sum; if these
-- bytes are there, that one of the texts is not UTF-8.
pub data NamesTextFault (reason : Reason) (count : ℕ) (input : List ℕ) : Type 0 where
  in_lengths : NamesLengthFault reason count input → NamesTextFault reason count input
  missing_bytes : (lengths middle : List ℕ) → reason ≡ Eof → Reads (SpellsLengths None) count input lengths middle → length middle < sum lengths
      → NamesTextFault reason count input
  not_texts : (lengths bytes rest : List ℕ) → reason ≡ InvalidUtf8 → Reads (SpellsLengths None) count input lengths (bytes ++ rest)
      → length bytes ≡ sum lengths → (All IsUtf8 (cut lengths bytes) → ⊥) → NamesTextFault reason count input

-- Texts that can be read without a limit, but exceed this one.
pub record BreaksTextLimit (limit count : ℕ) (input : List ℕ) : Type 0 where
  pub texts : List Datum
  pub rest : List ℕ
  pub read : Reads (Spells (text_shape None)) count input texts rest
  pub short : List ℕ
  pub large : List ℕ
  pub behind : List ℕ
  pub parts : ReadsParts count input short large behind
  pub broken : KeepsCap (Some limit) short (lengths_from short large) → ⊥

-- An error of texts with a limit reports the fault of the texts or, if they can be read, that they exceed the limit.
pub data NamesLimitedTextFault (limit : ℕ) (reason : Reason) (count : ℕ) (input : List ℕ) : Type 0 where
  in_texts : NamesTextFault reason count input → NamesLimitedTextFault limit reason count input
  over_limit : reason ≡ InvalidArrayString → BreaksTextLimit limit count input → NamesLimitedTextFault limit reason count input
