-- Data of maps are read as lists of their entries: they have the same columns.
use Rattle.std.proofs.Common.{◌≡◌, ℕ, ◌+◌, Bool, true, false, ◌||◌, None, List, length, arith, Result, Ok, Err, OnOk}
use Rattle.bitcode_memory.specs.declared.error.Error.{Error}
use Rattle.bitcode_memory.specs.declared.error.Reason.{Reason}
use Rattle.bitcode_columns.specs.Reading.{Reads}
use Rattle.bitcode_shapes.specs.Datum.{Datum}
use Rattle.bitcode_shapes.specs.Shape.{Shape, seq_shape, map_shape, pair_shape}
use Rattle.bitcode_coder.specs.ColumnFree.{has_entry, count_if_free, free_count, saturated}
use Rattle.bitcode_coder.specs.Spelling.{Spells}
use Rattle.bitcode_coder.specs.Transposition.{joined}
use Rattle.bitcode_coder.specs.Coder.{IsReadingRefusal}

module _ (key value : Shape) (k : ℕ) (old : List ℕ) where
  pub reads_map : (new : List ℕ) (ds : List Datum) → Reads (Spells (seq_shape None (pair_shape key value))) k old ds new
      → Reads (Spells (map_shape key value)) k old ds new
  reads_map new ds r = record {
    size = r.size;
    piece = r.piece;
    whole = r.whole;
    spelled = record { of_shape = r.spelled.of_shape; counts = r.spelled.counts; columns = r.spelled.columns };
  }

  reads_entries : (new : List ℕ) (ds : List Datum) → Reads (Spells (map_shape key value)) k old ds new
      → Reads (Spells (seq_shape None (pair_shape key value))) k old ds new
  reads_entries new ds r = record {
    size = r.size;
    piece = r.piece;
    whole = r.whole;
    spelled = record { of_shape = r.spelled.of_shape; counts = r.spelled.counts; columns = r.spelled.columns };
  }

  pub refuses_map : (reason : Reason) → IsReadingRefusal (seq_shape None (pair_shape key value)) reason k old
      → IsReadingRefusal (map_shape key value) reason k old
  refuses_map reason h = (h.0, λ other ds rest r. h.1 other ds rest (reads_entries rest ds r))

-- ---- keys without columns

-- keys count also if the values have columns
keys_count : (in_key in_value : Bool) (n m x y : ℕ) → n ≡ m
    → saturated (count_if_free (in_key || in_value) n + x) ≡ saturated (count_if_free (in_key || in_value) m + y)
    → saturated (count_if_free in_key n + x) ≡ saturated (count_if_free in_key m + y)
keys_count true in_value n m x y same counted = counted
keys_count false false n m x y same counted = counted
keys_count false true n m x y same counted = omega (arith, same, counted)

pub counts_map : (key value : Shape) {T : Type 0} (r : Result T Error) (total inside : ℕ) (ds : List Datum) → OnOk r (total ≡ length (joined ds))
    → OnOk r (saturated (count_if_free (has_entry (pair_shape key value)) total + inside) ≡ saturated (free_count (seq_shape None (pair_shape key value)) ds))
    → OnOk r (saturated (count_if_free (has_entry key) total + inside) ≡ saturated (free_count (map_shape key value) ds))
counts_map key value (Ok x) total inside ds size counted = keys_count (has_entry key) (has_entry value) total (length (joined ds)) inside _ size counted
counts_map key value (Err e) total inside ds size counted = tt
