-- Values one after another: what is appended to other bytes, and what is read from the front of an input.
use Rattle.std.specs.Prelude.{◌≡◌, ℕ, ◌*◌, ◌≤◌, Bool, IsTrue, List, ◌++◌, length}
use Rattle.bitcode_memory.specs.declared.error.Reason.{Reason}
use Rattle.bitcode_memory.specs.declared.error.Reason.TheVariants.{OutOfMemory}
use Rattle.bitcode_shapes.specs.Datum.{Datum}
use Rattle.bitcode_shapes.specs.Shape.{Shape}
use Rattle.bitcode_coder.specs.Columns.{entry_count}
use Rattle.bitcode_coder.specs.FirstFault.{IsFirstFault}
use Rattle.bitcode_derive.specs.Whole.{columns_of_one, IsEncodingOf, SpellsDatum}

-- the bytes are those from before, followed by an encoding of the value
pub record IsWrittenBehind {T : Type 0} (lists : T → Datum → Type 0) (shape : Shape) (t : T) (before after : List ℕ) : Type 0 where
  pub encoding : List ℕ
  pub behind : after ≡ before ++ encoding
  pub written : IsEncodingOf lists shape t encoding

-- a prefix of the input spells the datum, and the rest is left
pub record BeginsWithDatum (shape : Shape) (input : List ℕ) (d : Datum) (rest : List ℕ) : Type 0 where
  pub front : List ℕ
  pub whole : input ≡ front ++ rest
  pub spelled : SpellsDatum shape front d

-- a prefix of the input spells a datum that makes the value, and the rest is left
pub record IsDecodingOfFront {T : Type 0} (makes : Datum → T → Type 0) (shape : Shape) (input : List ℕ) (t : T) (rest : List ℕ) : Type 0 where
  pub datum : Datum
  pub begins : BeginsWithDatum shape input datum rest
  pub made : makes datum t

-- the input begins with at most one datum, which ends at one place
abbrev pub BeginsWithAtMostOne : Shape → List ℕ → Type 0
BeginsWithAtMostOne shape input = (d e : Datum) (rest other : List ℕ) → BeginsWithDatum shape input d rest → BeginsWithDatum shape input e other
    → (d ≡ e) × (rest ≡ other)

-- all columns of a datum together have at most eight times as many entries as bytes were taken for it
abbrev pub IsBoundedByFront : Shape → List ℕ → Type 0
IsBoundedByFront shape input = (d : Datum) (rest : List ℕ) (begins : BeginsWithDatum shape input d rest)
    → entry_count (columns_of_one shape d) ≤ 8 * length begins.front

-- What an error reports: the first fault of reading one datum; if it can be read, a failed allocation for the value,
-- unless making it does not allocate.
pub data NamesFrontFault (makes_free : Bool) (shape : Shape) (reason : Reason) (input : List ℕ) : Type 0 where
  in_front_columns : IsFirstFault shape reason 1 input → NamesFrontFault makes_free shape reason input
  in_making_front : reason ≡ OutOfMemory → (IsTrue makes_free → ⊥) → (d : Datum) (rest : List ℕ) → BeginsWithDatum shape input d rest
      → NamesFrontFault makes_free shape reason input
