-- Lists of data, one for each field, as one list of pairs.
use Rattle.std.specs.Prelude.{List, [], ◌∷◌}
use Rattle.std.specs.List.{AllZip}
use Rattle.bitcode_shapes.specs.Datum.{Datum, pair}

-- the first element of each list together, then the second of each, and so on; elements without a partner are left out
abbrev pub pairs_of : List Datum → List Datum → List Datum
pairs_of [] _ = []
pairs_of (d ∷ ds) [] = []
pairs_of (d ∷ ds) (e ∷ es) = pair d e ∷ pairs_of ds es

-- each of the values has a listing
abbrev pub EachListed : {T : Type 0} → (T → Datum → Type 0) → List T → Type 0
EachListed lists values = (ds : List Datum) × AllZip lists values ds
