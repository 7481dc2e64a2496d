-- The nodes so far.
use Rattle.std.proofs.Common.{◌≡◌, map, take}
use Rattle.bitcode_schema.specs.Forms.{parts_of}
use Rattle.bitcode_schema.proofs.write.named_nodes.Given as goal

abbrev pub invariant-loop-part : goal.invariant-loop-part
invariant-loop-part l = map (λ n. n.now) l.parts.items ≡ parts_of (take l.part-index l.named)
