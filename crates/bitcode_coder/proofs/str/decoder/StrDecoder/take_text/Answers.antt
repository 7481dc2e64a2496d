-- The texts that are left are UTF-8 too.
use Rattle.std.specs.Prelude.{IsUtf8}
use Rattle.std.proofs.Common.{take, drop}
use Rattle.std.proofs.lemmas.List.Elements.{All-rest}
use Rattle.bitcode_memory.specs.Fast.{slice_rest}
use Rattle.bitcode_coder.specs.Cutting.{cut}
use Rattle.bitcode_coder.specs.Length.{lengths_left}
use Rattle.bitcode_coder.proofs.StrLemmas.{taken_piece}
use Rattle.bitcode_coder.proofs.str.decoder.StrDecoder.take_text.Goals as goal

pub invariant_of-self : goal.invariant_of-self
invariant_of-self c =
    let bytes = slice_rest c.args.self.now.bytes in
    let n = c.decode-length.result in
    let later = lengths_left c.decode-length.new.self in
    record {
      utf8 = rw c.chunk_unchecked-bytes.ensures.rest
          (All-rest IsUtf8 (take n bytes) (cut later (drop n bytes)) (cut (lengths_left c.args.self.now.lengths) bytes)
          (taken_piece (lengths_left c.args.self.now.lengths) bytes n later c.decode-length.ensures.taken c.requires) c.args.self.now.utf8);
    }
