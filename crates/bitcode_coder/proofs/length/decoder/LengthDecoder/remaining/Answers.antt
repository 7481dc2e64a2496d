-- There are as many lengths as short bytes.
use Rattle.std.proofs.Common.{length, map, sym, ap, ◌∙◌}
use Rattle.bitcode_memory.specs.Fast.{cow_rest}
use Rattle.bitcode_memory.specs.LittleEndian.{little_endian}
use Rattle.bitcode_coder.specs.Length.{lengths_left}
use Rattle.bitcode_coder.proofs.LengthLemmas.{length-lengths_from}
use Rattle.bitcode_coder.proofs.length.decoder.LengthDecoder.remaining.Goals as goal

pub returns : goal.returns
unfolding lengths_left
returns c =
    ap length c.as_slice.ensures ∙ sym (length-lengths_from (cow_rest c.args.self.now.small) (map little_endian (cow_rest c.args.self.now.large)))
