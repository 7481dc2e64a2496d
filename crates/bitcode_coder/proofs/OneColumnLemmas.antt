-- What is read and written of one column, in terms of data, whatever its entries are.
use Rattle.std.proofs.Common.{◌≡◌, ℕ, ltb, Option, Some, None, List, [], ◌∷◌, ◌++◌, length, map, sym, ap, subst, ◌∙◌, inl, inr}
use Rattle.std.proofs.lemmas.Bool.{cond_both}
use Rattle.std.proofs.lemmas.List.{length-map, map-append}
use Rattle.bitcode_memory.specs.declared.error.Reason.{Reason}
use Rattle.bitcode_memory.specs.declared.error.Reason.TheVariants.{Eof}
use Rattle.bitcode_columns.specs.Reading.{Reads, missing, Names}
use Rattle.bitcode_columns.specs.Laws.{IsFaultOf}
use Rattle.bitcode_shapes.specs.Datum.{Datum}
use Rattle.bitcode_shapes.specs.Shape.{Shape}
use Rattle.bitcode_coder.specs.Columns.{Kind, one, beside}
use Rattle.bitcode_coder.specs.Spelling.{Spells, SpellsAs}
use Rattle.bitcode_coder.specs.Coder.{IsReadingReason, IsReadingRefusal, JoinsListing, written_columns}

-- a fault that a reader of data may name
abbrev pub IsReadingFault : Option Reason → Type 0
IsReadingFault None = Unit {0}
IsReadingFault (Some reason) = IsReadingReason reason

pub missing_known : (wanted : ℕ) (input : List ℕ) → IsReadingFault (missing wanted input)
missing_known wanted input = cond_both (ltb (length input) wanted) (Some Eof) None IsReadingFault (λ short. tt) (λ enough. tt)

-- a column whose fault is named holds no such data
pub refusal_of : {Entry : Type 0} (shape : Shape) (datum : Entry → Datum) (SpellsEntries : List ℕ → List Entry → Type 0)
    (fault : ℕ → List ℕ → Option Reason) → IsFaultOf fault SpellsEntries
    → ((bytes : List ℕ) (ds : List Datum) → Spells shape bytes ds → SpellsAs datum SpellsEntries bytes ds)
    → (reason : Reason) (count : ℕ) (input : List ℕ) → IsReadingFault (fault count input) → Names reason (fault count input)
    → IsReadingRefusal shape reason count input
refusal_of shape datum SpellsEntries fault law as_entries reason count input known (inl memory) =
    (subst IsReadingReason (sym memory.0) tt, λ other ds rest r. absurd (other memory.0))
refusal_of shape datum SpellsEntries fault law as_entries reason count input known (inr named) = (
  subst IsReadingFault named known,
  λ other ds rest r.
      let s = as_entries r.piece ds r.spelled in
      law.refused count input reason named r.piece s.entries rest s.spelled
      (sym (ap length s.are ∙ length-map s.entries datum) ∙ r.size) r.whole,
)

pub reads_of : {Entry : Type 0} (shape : Shape) (datum : Entry → Datum) (SpellsEntries : List ℕ → List Entry → Type 0)
    (count : ℕ) (old : List ℕ) (entries : List Entry) (new : List ℕ) → Reads SpellsEntries count old entries new
    → ((piece : List ℕ) → SpellsEntries piece entries → Spells shape piece (map datum entries))
    → Reads (Spells shape) count old (map datum entries) new
reads_of shape datum SpellsEntries count old entries new r spells = record {
  size = length-map entries datum ∙ r.size;
  piece = r.piece;
  whole = r.whole;
  spelled = spells r.piece r.spelled;
}

-- an entry was pushed
pub joins_entry : {T Entry : Type 0} (lists : T → Datum → Type 0) (shape : Shape) (kind : Kind) (datum : Entry → Datum) (t : T) (entry : Entry) (old new : List Entry)
    → ((ds : List Datum) → written_columns shape ds ≡ one kind ds) → lists t (datum entry) → new ≡ old ++ entry ∷ []
    → JoinsListing lists shape t (one kind (map datum old)) (one kind (map datum new))
joins_entry lists shape kind datum t entry old new columns listing pushed = record {
  datum = datum entry;
  listing = listing;
  joined = subst (λ added. one kind (map datum new) ≡ beside (one kind (map datum old)) added) (sym (columns (datum entry ∷ [])))
      (ap (λ entries. one kind (map datum entries)) pushed ∙ ap (one kind) (map-append datum old (entry ∷ [])));
  fits = λ fit. tt;
}
