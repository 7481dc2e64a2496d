-- How many data stand at a place, told from the columns of the places above it.
use Rattle.std.specs.Prelude.{ℕ, List, [], ◌∷◌, map, sum, count_by, ◌==◌}
use Rattle.bitcode_shapes.specs.Datum.{Datum, natural_in}
use Rattle.bitcode_untyped.specs.Walk.{element, key, value, variant, field, Place}

-- the sum of a length column
abbrev pub total : List Datum → ℕ
total ds = sum (map natural_in ds)

-- how often i stands in an index column
abbrev pub count_of : ℕ → List Datum → ℕ
count_of i ds = count_by (λ n. n == i) (map natural_in ds)

-- One datum stands at the root, and below it as many as the lengths, or the indices, of the place above say.
abbrev pub population : (Place → List Datum) → Place → ℕ
population entries [] = 1
population entries (element ∷ p) = total (entries p)
population entries (key ∷ p) = total (entries p)
population entries (value ∷ p) = total (entries p)
population entries (variant i ∷ p) = count_of i (entries p)
population entries (field i ∷ p) = population entries p
