-- The columns of a walk that grows at its end, as a writer meets it.
use Rattle.std.specs.Prelude.{List, [], ◌∷◌, ◌++◌, if◌then◌else◌}
use Rattle.bitcode_untyped.specs.Walk.{Use}
use Rattle.bitcode_untyped.specs.PlacedColumns.{same_place, PlacedColumn}

-- One more use: its entry stands behind the others of its place, or begins a column behind the others.
abbrev pub put : Use → List PlacedColumn → List PlacedColumn
put u [] = record { place = u.place; kind = u.kind; entries = u.entry ∷ [] } ∷ []
put u (c ∷ cs) = if same_place u.place c.place then record c { entries = c.entries ++ u.entry ∷ [] } ∷ cs else c ∷ put u cs

abbrev pub put_all : List Use → List PlacedColumn → List PlacedColumn
put_all [] cs = cs
put_all (u ∷ w) cs = put_all w (put u cs)
