use Rattle.std.proofs.Common.{◌≡◌, ℕ, ◌<◌, ◌≤◌, get_or}
use Rattle.bitcode_serde.proofs.serde.decoder.VariantDecoder.max_variant_index.Given as goal

-- the indices from here on were not read
abbrev pub invariant-loop-index : goal.invariant-loop-index
invariant-loop-index l = (index : ℕ) → l.index ≤ index → index < 256 → get_or l.counts index 0 ≡ 0
