-- Choices as their variants, with a list of payloads for each variant. How composite coders read them and write them,
-- one column after another.
use Rattle.std.specs.Prelude.{◌≡◌, ◌≢◌, Bool, IsTrue, ℕ, suc, List, [], ◌∷◌, slice_index_or, slice_set}
use Rattle.bitcode_memory.specs.declared.error.Reason.{Reason}
use Rattle.bitcode_memory.specs.declared.error.Reason.TheVariants.{OutOfMemory}
use Rattle.bitcode_columns.specs.Histogram.{count_of}
use Rattle.bitcode_columns.specs.Reading.{Reads}
use Rattle.bitcode_shapes.specs.Datum.{Datum, choice}
use Rattle.bitcode_shapes.specs.Shape.{Shapes, no_shapes, shape_and}
use Rattle.bitcode_coder.specs.Columns.{Columns, beside, plain, emptied, CountsFit}
use Rattle.bitcode_coder.specs.Transposition.{payload_columns}
use Rattle.bitcode_coder.specs.Spelling.{Spells}
use Rattle.bitcode_coder.specs.Strict.{JudgesBoth, JudgesData}
use Rattle.bitcode_coder.specs.Coder.{IsReadingReason}

-- ---- choices that a reader holds

-- the payloads of a variant
abbrev pub payloads_of : ℕ → List (List Datum) → List Datum
payloads_of variant lists = slice_index_or lists variant []

abbrev pub next_choice : ℕ → List Datum → (List Datum → List Datum) → List Datum
next_choice variant [] later = []
next_choice variant (d ∷ ds) later = choice variant d ∷ later ds

-- each variant with the next of its payloads, as long as there are payloads
abbrev pub choices_of : List ℕ → List (List Datum) → List Datum
choices_of [] lists = []
choices_of (variant ∷ variants) lists =
    next_choice variant (payloads_of variant lists) (λ left. choices_of variants (slice_set lists variant left))

-- ---- reading

-- one read, followed by another
pub record InTurn (First Then : List ℕ → Type 0) : Type 0 where
  pub middle : List ℕ
  pub first : First middle
  pub behind : Then middle

-- The payloads of the variants from an index on were read: for each variant as many as it has.
abbrev pub ReadsPayloads : Shapes → (index : ℕ) (variants old : List ℕ) → List (List Datum) → (new : List ℕ) → Type 0
ReadsPayloads no_shapes index variants old [] new = old ≡ new
ReadsPayloads no_shapes index variants old (ds ∷ lists) new = ⊥
ReadsPayloads (shape_and s ss) index variants old [] new = ⊥
ReadsPayloads (shape_and s ss) index variants old (ds ∷ lists) new =
    InTurn (Reads (Spells s) (count_of index variants) old ds) (λ middle. ReadsPayloads ss (suc index) variants middle lists new)

-- the payloads of each variant were compared with the bytes that would be written
abbrev pub JudgesPayloads : Shapes → List (List Datum) → Bool → (old new : List ℕ) → Type 0
JudgesPayloads no_shapes lists written old new = (old ≡ new) × IsTrue written
JudgesPayloads (shape_and s ss) [] written old new = ⊥
JudgesPayloads (shape_and s ss) (ds ∷ lists) written old new = JudgesBoth (JudgesData s ds) (JudgesPayloads ss lists) written old new

-- an error other than a failed allocation comes only if the payloads from that index on cannot be read
abbrev pub IsPayloadsRefusal : Shapes → (index : ℕ) (variants : List ℕ) → Reason → (input : List ℕ) → Type 0
IsPayloadsRefusal shapes index variants reason input =
    IsReadingReason reason × (reason ≢ OutOfMemory → (lists : List (List Datum)) (rest : List ℕ) → ReadsPayloads shapes index variants input lists rest → ⊥)

-- ---- writing

-- the columns of the payloads of a choice, variant by variant from an index on
abbrev pub written_payloads : Shapes → (index : ℕ) → List Datum → Columns
written_payloads shapes index ds = plain (payload_columns shapes index ds)

-- these are columns of such payloads
abbrev pub HasPayloads : Shapes → (index : ℕ) → Columns → Type 0
HasPayloads shapes index columns = emptied columns ≡ written_payloads shapes index []

-- The payload of a choice was added to the columns of its variant, which has an index of at least that.
pub record JoinsPayload (shapes : Shapes) (index variant : ℕ) (payload : Datum) (old new : Columns) : Type 0 where
  pub joined : new ≡ beside old (written_payloads shapes index (choice variant payload ∷ []))
  pub fits : CountsFit old → CountsFit new

-- with that payload a number of arrays does not fit in a length
abbrev pub OverflowsAtPayload : Shapes → (index variant : ℕ) → Datum → Columns → Type 0
OverflowsAtPayload shapes index variant payload old = CountsFit (beside old (written_payloads shapes index (choice variant payload ∷ []))) → ⊥
