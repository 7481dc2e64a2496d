-- Data that a type's own check admits are read as the data of its fields are.
use Rattle.std.proofs.Common.{◌≡◌, Bool, true, ℕ, List, sym, subst}
use Rattle.std.specs.Prelude.{All}
use Rattle.std.proofs.lemmas.List.Elements.{All-weaker}
use Rattle.bitcode_memory.specs.declared.error.Reason.{Reason}
use Rattle.bitcode_columns.specs.Reading.{Reads}
use Rattle.bitcode_shapes.specs.Datum.{Datum}
use Rattle.bitcode_shapes.specs.Shape.{Shape, admitted_shape, IsOf}
use Rattle.bitcode_coder.specs.Coder.{IsReadingReason, IsReadingRefusal}
use Rattle.bitcode_coder.specs.FirstFault.{IsNotAdmitted}
use Rattle.bitcode_coder.specs.Spelling.{Spells}
use Rattle.bitcode_coder.proofs.LengthRefusalLemmas.{reads_once}
use Rattle.bitcode_coder.proofs.SpellingLemmas.{Spells-unambiguous, admitted_each}

module _ (admits : Datum → Bool) (shape : Shape) where
  are_admitted : (ds : List Datum) → All (IsOf (admitted_shape admits shape)) ds → All (λ d. admits d ≡ true) ds
  are_admitted ds h = All-weaker (IsOf (admitted_shape admits shape)) (λ d. admits d ≡ true) (λ d is. is.1) ds h

  checked_each : (ds : List Datum) → All (IsOf shape) ds → All (λ d. admits d ≡ true) ds → All (IsOf (admitted_shape admits shape)) ds
  checked_each ds h each k d lt = (h k d lt, each k d lt)

  pub read_unchecked : (k : ℕ) (input : List ℕ) (ds : List Datum) (rest : List ℕ) → Reads (Spells (admitted_shape admits shape)) k input ds rest
      → Reads (Spells shape) k input ds rest
  read_unchecked k input ds rest r = record {
    size = r.size;
    piece = r.piece;
    whole = r.whole;
    spelled = record { of_shape = admitted_each admits shape ds r.spelled.of_shape; counts = r.spelled.counts; columns = r.spelled.columns };
  }

  pub read_checked : (k : ℕ) (input : List ℕ) (ds : List Datum) (rest : List ℕ) → Reads (Spells shape) k input ds rest → All (λ d. admits d ≡ true) ds
      → Reads (Spells (admitted_shape admits shape)) k input ds rest
  read_checked k input ds rest r each = record {
    size = r.size;
    piece = r.piece;
    whole = r.whole;
    spelled = record {
      of_shape = checked_each ds r.spelled.of_shape each;
      counts = r.spelled.counts;
      columns = r.spelled.columns;
    };
  }

  pub refuses_admitted : (k : ℕ) (reason : Reason) (input : List ℕ) → IsReadingRefusal shape reason k input → IsReadingRefusal (admitted_shape admits shape) reason k input
  refuses_admitted k reason input refusal = (refusal.0, λ other ds rest r. refusal.1 other ds rest (read_unchecked k input ds rest r))

  pub refuses_unadmitted : (k : ℕ) (reason : Reason) (input : List ℕ) → IsNotAdmitted admits shape reason k input
      → IsReadingRefusal (admitted_shape admits shape) reason k input
  refuses_unadmitted k reason input broken = (
    subst IsReadingReason (sym broken.is) tt,
    λ other ds rest r.
        let same = reads_once (Spells-unambiguous shape) (read_unchecked k input ds rest r) broken.read in
        broken.refused (subst (λ es. All (λ d. admits d ≡ true) es) same.0 (are_admitted ds r.spelled.of_shape)),
  )
