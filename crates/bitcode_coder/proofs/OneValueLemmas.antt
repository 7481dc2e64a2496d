-- The bytes of columns of one entry.
use Rattle.std.proofs.Common.{◌≡◌, ℕ, ◌<◌, ◌≤◌, min, leb, pos, Bool, true, false, List, [], ◌∷◌, ◌++◌, length, map, refl, sym, ap, subst, ◌∙◌, arith, append-nil}
use Rattle.std.proofs.lemmas.Bool.{cond-true, cond-false, le-leb, lt-leb}
use Rattle.bitcode_columns.specs.BoolColumn.{bool_text}
use Rattle.bitcode_columns.specs.ByteColumn.{byte_text}
use Rattle.bitcode_columns.specs.Digits.{digits_text}
use Rattle.bitcode_columns.specs.IntColumn.{int_text}
use Rattle.bitcode_memory.specs.LittleEndian.{raw_text}
use Rattle.bitcode_shapes.specs.Datum.{Datum}
use Rattle.bitcode_shapes.specs.Shape.{Shape}
use Rattle.bitcode_coder.specs.Columns.{Kind, Columns, one, beside, bools}
use Rattle.bitcode_coder.specs.Coder.{WritesListing, written_columns}
use Rattle.bitcode_coder.specs.LengthColumn.{escape, length_bytes}
use Rattle.bitcode_coder.specs.Spelling.{column_bytes, truth}
use Rattle.bitcode_coder.specs.TextColumn.{texts_bytes}
use mir.Val.{bool_byte}

-- the entries of a column
abbrev pub entries_in : Columns → List Datum
entries_in (one kind entries) = entries
entries_in _ = []

-- the bytes of a column with one entry were written
pub writes_entry : {T : Type 0} (lists : T → Datum → Type 0) (shape : Shape) (kind : Kind) (t : T) (d : Datum) (entries : List Datum) (before after : List ℕ)
    → ((ds : List Datum) → written_columns shape ds ≡ one kind ds) → lists t d → one kind entries ≡ one kind [] → after ≡ before ++ column_bytes kind (d ∷ [])
    → WritesListing lists shape t (one kind entries) before after
writes_entry lists shape kind t d entries before after columns listing none written = record {
  new = one kind (d ∷ []);
  joined = record {
    datum = d;
    listing = listing;
    joined = subst (λ added. one kind (d ∷ []) ≡ beside (one kind entries) added) (sym (columns (d ∷ [])))
        (sym (ap (λ held. one kind (held ++ d ∷ [])) (ap entries_in none)));
    fits = λ fit. tt;
  };
  written = written;
}

-- the column of one bool is a byte
pub one_truth : (b : Bool) → bool_byte b ∷ [] ≡ column_bytes bools (truth b ∷ [])
unfolding bool_text digits_text
one_truth true = refl
one_truth false = refl

-- a short length is a byte
pub one_short : (n : ℕ) → n < escape → n ∷ [] ≡ length_bytes (n ∷ [])
unfolding length_bytes byte_text int_text raw_text
one_short n below =
    let same : min n escape ≡ n = omega arith in
    sym (ap (λ larges. min n escape ∷ int_text 8 (map pos larges)) (cond-false (leb escape n) (n ∷ []) [] (lt-leb escape n below)) ∙ ap (λ byte. byte ∷ []) same)

-- a large length is an escape, and then the length
pub one_large : (n : ℕ) → escape ≤ n → escape ∷ int_text 8 (pos n ∷ []) ≡ length_bytes (n ∷ [])
unfolding length_bytes byte_text
one_large n above =
    let same : min n escape ≡ escape = omega arith in
    sym (ap (λ larges. min n escape ∷ int_text 8 (map pos larges)) (cond-true (leb escape n) (n ∷ []) [] (le-leb escape n above))
    ∙ ap (λ byte. byte ∷ int_text 8 (pos n ∷ [])) same)

-- a text is its length, and then its bytes
pub one_text : (bytes : List ℕ) → length_bytes (length bytes ∷ []) ++ bytes ≡ texts_bytes (bytes ∷ [])
unfolding texts_bytes
one_text bytes = ap (λ text. length_bytes (length bytes ∷ []) ++ text) (sym (append-nil bytes))
