-- A lane is marked where one of the four is a NaN.
use Rattle.bitcode_floats.proofs.NumberLemmas.{numbers_of_four}
use Rattle.bitcode_floats.proofs.direct.are_numbers.Goals as goal

pub returns : goal.returns
returns c = numbers_of_four c.args.first c.args.second c.args.third c.args.fourth c.requires.first c.requires.second c.requires.third c.requires.fourth
