-- The text is one piece more, whichever way its bytes are pushed.
use Rattle.std.proofs.Common.{◌++◌, ap, ◌∙◌}
use Rattle.bitcode_memory.specs.Fast.{fast_items}
use Rattle.bitcode_coder.specs.Length.{written_lengths}
use Rattle.bitcode_coder.proofs.StrLemmas.{pieces_pushed}
use Rattle.bitcode_coder.proofs.str.encoder.StrEncoder.encode_text.Goals as goal

pub returns-then-bytes-lt16-clause-written : goal.returns-then-bytes-lt16-clause-written
returns-then-bytes-lt16-clause-written c =
    pieces_pushed (written_lengths c.args.self.now.lengths) (written_lengths c.encode_less_than_255.new.self) (fast_items c.args.self.now.bytes) (fast_items c.extend_few.new.self)
    c.args.bytes.now c.args.self.now.whole c.encode_less_than_255.ensures.written
    (c.extend_few.ensures.items ∙ ap (λ front. front ++ c.args.bytes.now) c.in_ok-reserve.ensures.items)

pub returns-clause-written : goal.returns-clause-written
returns-clause-written c =
    pieces_pushed (written_lengths c.args.self.now.lengths) (written_lengths c.encode.new.self) (fast_items c.args.self.now.bytes) (fast_items c.extend_unchecked.new.self)
    c.args.bytes.now c.args.self.now.whole c.in_ok-encode.ensures.written
    (c.extend_unchecked.ensures.items ∙ ap (λ front. front ++ c.args.bytes.now) c.in_ok-reserve-2.ensures.items)
