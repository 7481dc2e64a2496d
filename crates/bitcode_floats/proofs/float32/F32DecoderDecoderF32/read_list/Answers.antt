-- The list is made of what was read.
use Rattle.bitcode_coder.proofs.DirectLemmas.{each_read}
use Rattle.bitcode_floats.proofs.float32.F32DecoderDecoderF32.read_list.Goals as goal

pub returns : goal.returns
returns c = each_read _ _ c.args.count c.in-Ok.ensures.read c.in-Ok-decode_many.ensures.made
