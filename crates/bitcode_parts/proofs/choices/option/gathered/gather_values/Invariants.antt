use Rattle.std.proofs.Common.{◌≡◌, ◌≤◌, length, map, take}
use Rattle.bitcode_parts.specs.Options.{values_in}
use Rattle.bitcode_parts.proofs.choices.option.gathered.gather_values.Given as goal

abbrev pub invariant-loop-item : goal.invariant-loop-item
invariant-loop-item g l = record {
  values : map (λ value. value.now) (take l.count l.values) ≡ values_in (map (g.W.Part.of l.which) (take l.item-index l.items));
  size : l.count ≤ l.item-index;
  long : length l.values ≡ 64;
}
