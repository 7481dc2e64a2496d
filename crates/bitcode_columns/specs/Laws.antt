-- The laws that every kind of column obeys, stated for what the kind accepts.
use Rattle.std.specs.Prelude.{◌≡◌, ℕ, ◌+◌, ◌*◌, ◌≤◌, List, [], ◌++◌, length, Option, Some, map, All, Bool, ℤ}
use Rattle.bitcode_memory.specs.declared.error.Reason.{Reason}
use Rattle.bitcode_memory.specs.Ints.{IsNumber, residue, number_of}
use Rattle.bitcode_columns.specs.Reading.{Reads}

-- An input is read in at most one way: for one count there is one list of entries and one rest.
pub record IsReadOnce {Entry : Type 0} (Spells : List ℕ → List Entry → Type 0) : Type 0 where
  pub unambiguous : (piece other : List ℕ) (entries others : List Entry) (rest left : List ℕ) → Spells piece entries → Spells other others
      → length entries ≡ length others → piece ++ rest ≡ other ++ left → (entries ≡ others) × (rest ≡ left)

-- An empty column has no bytes, and k entries have at least k / 8.
pub record TakesAnEighth {Entry : Type 0} (Spells : List ℕ → List Entry → Type 0) : Type 0 where
  pub nothing : (piece : List ℕ) → Spells piece [] → piece ≡ []
  pub size_bound : (piece : List ℕ) (entries : List Entry) → Spells piece entries → length entries ≤ 8 * length piece

-- If a fault is reported, no prefix of the input spells that many entries.
pub record IsFaultOf {Entry : Type 0} (fault : ℕ → List ℕ → Option Reason) (Spells : List ℕ → List Entry → Type 0) : Type 0 where
  pub refused : (count : ℕ) (input : List ℕ) (reason : Reason) → fault count input ≡ Some reason
      → (piece : List ℕ) (entries : List Entry) (rest : List ℕ) → Spells piece entries → length entries ≡ count → input ≡ piece ++ rest → ⊥

-- What is written is accepted as the same entries. (What follows does not matter: an input is read in one way.)
pub record IsReadBack (width : ℕ) (Spells : List ℕ → List ℕ → Type 0) (text : List ℤ → List ℕ) : Type 0 where
  pub back : (signed : Bool) (entries : List ℤ) → All (IsNumber width signed) entries → Spells (text entries) (map (residue width) entries)

-- The text has at most one byte more than the raw bytes.
pub record TakesAtMostOneMore (width : ℕ) (text : List ℤ → List ℕ) : Type 0 where
  pub at_most : (signed : Bool) (entries : List ℤ) → All (IsNumber width signed) entries → length (text entries) ≤ width * length entries + 1

-- The text of entries is read back as the same entries, whatever follows it.
abbrev pub ReadsBack : (width : ℕ) → (List ℕ → List ℕ → Type 0) → (List ℤ → List ℕ) → Type 0
ReadsBack width Spells text = (signed : Bool) (entries : List ℤ) (rest : List ℕ) → All (IsNumber width signed) entries
    → Reads Spells (length entries) (text entries ++ rest) (map (residue width) entries) rest

-- An entry's residue determines its number.
abbrev pub NumbersAreFound : Type 0
NumbersAreFound = (width : ℕ) (signed : Bool) (z : ℤ) → 1 ≤ width → IsNumber width signed z → number_of width signed (residue width z) ≡ z
