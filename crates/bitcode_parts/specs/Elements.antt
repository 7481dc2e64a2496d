-- What the elements of a sequence make up.
use Rattle.std.specs.Prelude.{List}
use Rattle.bitcode_shapes.specs.Datum.{Datum}
use Rattle.bitcode_shapes.specs.Lists.{MakesSequence}

-- every list of data that makes these elements makes the value
abbrev pub MakesOfElements : {T U : Type 0} → (Datum → U → Type 0) → (Datum → T → Type 0) → U → List T → Type 0
MakesOfElements makes_whole makes t elements = (d : Datum) → MakesSequence makes d elements → makes_whole d t
