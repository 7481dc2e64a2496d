-- The bits of the column are those of the floats.
use Rattle.std.proofs.Common.{ap, sym, ◌∙◌, ◌++◌, map}
use Rattle.std.specs.Prelude.{to_bits}
use Rattle.std.specs.Float.{binary32}
use Rattle.bitcode_float_columns.specs.FloatColumn.{split_text}
use Rattle.bitcode_memory.specs.Fast.{fast_items}
use Rattle.bitcode_floats.proofs.FloatLemmas.{bits_of_data}
use Rattle.bitcode_floats.proofs.float32.F32EncoderBuffer.collect_into.Goals as goal

pub returns-clause-written : goal.returns-clause-written
returns-clause-written c =
    c.in_ok-pack_f32s.ensures.written
    ∙ ap (λ bits. c.args.out.now.items ++ split_text bits)
    (ap (map (λ x. to_bits binary32 x)) c.as_slice.ensures ∙ sym (bits_of_data binary32 (fast_items c.args.self.now.values)))
