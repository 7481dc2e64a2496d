-- How many entries of a list are each number.
use Rattle.std.specs.Prelude.{◌≡◌, ℕ, ◌+◌, ◌<◌, List, length, slice_index, count_by, ◌==◌}

abbrev pub count_of : ℕ → List ℕ → ℕ
count_of value entries = count_by (λ entry. entry == value) entries

-- A count for each number below a bound: how many entries are that number. Other entries are ignored.
pub record AreCounts (bound : ℕ) (entries counts : List ℕ) : Type 0 where
  pub size : length counts ≡ bound
  pub each : (value : ℕ) → value < bound → slice_index counts value ≡ count_of value entries

-- how often four tables of 256 counts, one after another, count a number together
unfoldable pub counted : List ℕ → ℕ → ℕ
counted tables value = slice_index tables value + slice_index tables (256 + value) + slice_index tables (512 + value) + slice_index tables (768 + value)
