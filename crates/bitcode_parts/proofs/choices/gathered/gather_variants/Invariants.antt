use Rattle.std.proofs.Common.{◌≡◌, ◌<◌, length, map, take, drop, All}
use Rattle.bitcode_parts.proofs.choices.gathered.gather_variants.Given as goal

abbrev pub invariant-loop-index : goal.invariant-loop-index
invariant-loop-index g l = record {
  gathered : take l.index l.variants ≡ map g.V.SaysVariant.variant (map (g.W.Part.of l.which) (take l.index l.items));
  known : All (λ variant. variant < g.V.SaysVariant.count) (take l.index l.variants);
  rest : drop (length l.items) l.variants ≡ drop (length l.items) l.initial.variants;
}
