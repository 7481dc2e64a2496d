use Rattle.std.proofs.Common.{◌≡◌, drop}
use Rattle.std.specs.List.{concat}
use Rattle.bitcode_sealed.specs.Crc.{ones, register_after}
use Rattle.bitcode_sealed.proofs.crc.crc_32.Given as goal

-- the chunks to come make of the register what all of them make of ones
abbrev pub invariant-loop-chunk : goal.invariant-loop-chunk
invariant-loop-chunk l = register_after l.register (concat (drop l.chunk-index l.chunks)) ≡ register_after ones (concat l.chunks)

-- and so do the bytes behind them
abbrev pub invariant-loop-byte : goal.invariant-loop-byte
invariant-loop-byte l = register_after l.register (drop l.byte-index l.rest) ≡ register_after ones l.fn.bytes
