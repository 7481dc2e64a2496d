-- The first fault of reading data of a shape, whose columns are read one after another.
use Rattle.std.specs.Prelude.{◌≡◌, ℕ, suc, ◌*◌, ◌^◌, ◌<◌, ◌≤◌, Some, None, Bool, true, List, length, sum, All, ◌⊎◌}
use Rattle.bitcode_memory.specs.declared.error.Reason.{Reason}
use Rattle.bitcode_memory.specs.declared.error.Reason.TheVariants.{Eof, LengthOverflow, InvalidArrayVec, InvalidBitPattern, InvalidEnumVariant}
use Rattle.bitcode_columns.specs.Histogram.{count_of}
use Rattle.bitcode_columns.specs.Reading.{Reads}
use Rattle.bitcode_columns.specs.VariantColumn.{SpellsVariants}
use Rattle.bitcode_shapes.specs.Datum.{Datum}
use Rattle.bitcode_shapes.specs.Shape.{Shape, Shapes, unit_shape, never_shape, bool_shape, number_shape, float_shape, text_shape, raw_shape, seq_shape, map_shape, array_shape, pair_shape, choice_shape, admitted_shape, no_shapes, shape_and, variant_count}
use Rattle.bitcode_coder.specs.Faults.{NamesBoolsFault, NamesCheckedFault, NamesFloatsFault, NamesVariantsFault}
use Rattle.bitcode_coder.specs.LengthColumn.{SpellsLengths}
use Rattle.bitcode_coder.specs.LengthParts.{NamesLengthFault}
use Rattle.bitcode_coder.specs.Spelling.{Spells}
use Rattle.bitcode_coder.specs.TextParts.{NamesTextFault, NamesLimitedTextFault}

-- so many entries can be read, and the rest of the input has a fault
pub record FaultsBehind {Entry : Type 0} (Spelled : List ℕ → List Entry → Type 0) (k : ℕ) (Fault : List Entry → List ℕ → Type 0) (input : List ℕ) : Type 0 where
  pub entries : List Entry
  pub rest : List ℕ
  pub read : Reads Spelled k input entries rest
  pub fault : Fault entries rest

-- a fault of the lengths, or after them of all elements together
abbrev pub ListsFault : (Reason → ℕ → List ℕ → Type 0) → Reason → ℕ → List ℕ → Type 0
ListsFault ElementsFault reason k input =
    NamesLengthFault reason k input ⊎ FaultsBehind (SpellsLengths None) k (λ lengths rest. ElementsFault reason (sum lengths) rest) input

-- the lists, lengths and elements, can be read without a limit on their lengths, but not with it
pub record BreaksLimit (limit : ℕ) (element : Shape) (reason : Reason) (k : ℕ) (input : List ℕ) : Type 0 where
  pub is : reason ≡ InvalidArrayVec
  pub lists : List Datum
  pub rest : List ℕ
  pub read : Reads (Spells (seq_shape None element)) k input lists rest
  pub over : (others : List Datum) (left : List ℕ) → Reads (Spells (seq_shape (Some limit) element)) k input others left → ⊥

-- the data can be read, but a type's own check does not admit them all
pub record IsNotAdmitted (admits : Datum → Bool) (shape : Shape) (reason : Reason) (k : ℕ) (input : List ℕ) : Type 0 where
  pub is : reason ≡ InvalidBitPattern
  pub found : List Datum
  pub rest : List ℕ
  pub read : Reads (Spells shape) k input found rest
  pub refused : All (λ d. admits d ≡ true) found → ⊥

-- the number of arrays times their size does not fit in a length, or so many elements have a fault
abbrev pub ArraysFault : ℕ → (Reason → ℕ → List ℕ → Type 0) → Reason → ℕ → List ℕ → Type 0
ArraysFault size ElementsFault reason k input =
    ((2 ^ 64 ≤ k * size) × (reason ≡ LengthOverflow)) ⊎ ((k * size < 2 ^ 64) × ElementsFault reason (k * size) input)

-- a fault of the first part, or after it of the second
abbrev pub PairsFault : Shape → (First Second : Reason → ℕ → List ℕ → Type 0) → Reason → ℕ → List ℕ → Type 0
PairsFault first First Second reason k input = First reason k input ⊎ FaultsBehind (Spells first) k (λ ds rest. Second reason k rest) input

abbrev mutual
  -- the reason is that of the first fault of reading so many data of the shape from the input
  pub IsFirstFault : Shape → Reason → ℕ → List ℕ → Type 0
  IsFirstFault unit_shape reason k input = ⊥
  IsFirstFault never_shape reason k input = (reason ≡ InvalidEnumVariant) × (0 < k)
  IsFirstFault bool_shape reason k input = NamesBoolsFault reason k input
  IsFirstFault (number_shape width signed allowed) reason k input = NamesCheckedFault width signed allowed reason k input
  IsFirstFault (float_shape format) reason k input = NamesFloatsFault format reason k input
  IsFirstFault (text_shape None) reason k input = NamesTextFault reason k input
  IsFirstFault (text_shape (Some limit)) reason k input = NamesLimitedTextFault limit reason k input
  IsFirstFault raw_shape reason k input = (reason ≡ Eof) × (length input < k)
  IsFirstFault (seq_shape None element) reason k input = ListsFault (IsFirstFault element) reason k input
  IsFirstFault (seq_shape (Some limit) element) reason k input =
      ListsFault (IsFirstFault element) reason k input ⊎ BreaksLimit limit element reason k input
  IsFirstFault (map_shape key value) reason k input = ListsFault (PairsFault key (IsFirstFault key) (IsFirstFault value)) reason k input
  IsFirstFault (array_shape size element) reason k input = ArraysFault size (IsFirstFault element) reason k input
  IsFirstFault (pair_shape first second) reason k input = PairsFault first (IsFirstFault first) (IsFirstFault second) reason k input
  IsFirstFault (choice_shape shapes) reason k input =
      NamesVariantsFault (variant_count shapes) reason k input
      ⊎ FaultsBehind (SpellsVariants (variant_count shapes)) k (λ variants rest. IsPayloadsFault shapes reason 0 variants rest) input
  IsFirstFault (admitted_shape admits shape) reason k input = IsFirstFault shape reason k input ⊎ IsNotAdmitted admits shape reason k input

  -- the same of the payloads of the variants from an index on: those of one variant, or after them those of the next
  pub IsPayloadsFault : Shapes → Reason → (index : ℕ) (variants input : List ℕ) → Type 0
  IsPayloadsFault no_shapes reason index variants input = ⊥
  IsPayloadsFault (shape_and s ss) reason index variants input =
      IsFirstFault s reason (count_of index variants) input
      ⊎ FaultsBehind (Spells s) (count_of index variants) (λ ds rest. IsPayloadsFault ss reason (suc index) variants rest) input
