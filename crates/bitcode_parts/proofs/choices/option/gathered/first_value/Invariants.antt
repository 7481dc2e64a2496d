use Rattle.std.proofs.Common.{◌≡◌, [], map, take}
use Rattle.bitcode_parts.specs.Options.{values_in}
use Rattle.bitcode_parts.proofs.choices.option.gathered.first_value.Given as goal

abbrev pub invariant-loop-item : goal.invariant-loop-item
invariant-loop-item g l = values_in (map (g.W.Part.of l.which) (take l.item-index l.items)) ≡ []
