-- Where columns stand in an input.
use Rattle.std.specs.Prelude.{ℕ, ◌+◌, Bool, ◌==◌, ◌&&◌, List, [], ◌∷◌}
use Rattle.bitcode_command.specs.declared.column.Column.{Column}

-- The columns stand one behind another, from a place on, and the last one ends at the other place.
abbrev pub stand_from : ℕ → List Column → ℕ → Bool
stand_from from [] to = from == to
stand_from from (column ∷ columns) to = (column.offset == from) && stand_from (from + column.extent.size) columns to
