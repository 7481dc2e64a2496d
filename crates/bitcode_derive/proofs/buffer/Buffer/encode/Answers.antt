-- One value is written: the encoder was cleared, so that it began without entries.
use Rattle.std.proofs.Common.{◌≡◌, [], ◌∙◌, sym}
use Rattle.std.proofs.lemmas.Result.{err_from_is_err_and}
use Rattle.bitcode_coder.specs.Coder.{written_columns}
use Rattle.bitcode_coder.proofs.RefusalLemmas.{refusal_weaker}
use Rattle.bitcode_derive.proofs.EncodingLemmas.{encoding_of-joined, long_listing}
use Rattle.bitcode_derive.proofs.buffer.Buffer.encode.Goals as goal

pub write_one-requires : goal.write_one-requires
write_one-requires g c =
    c.clear.ensures.empty ∙ (g.met.T.Encoder.Encoder.of_shape c.args.self.now.encoder ∙ sym (g.met.T.Encoder.Encoder.of_shape c.clear.new.self))

pub returns-in_err-write_one : goal.returns-in_err-write_one
returns-in_err-write_one g c =
    let p = err_from_is_err_and c.from_residual.result c.from_residual.ensures.1 in
    let none_yet : g.T.Encoder.HoldsColumns.columns c.clear.new.self ≡ written_columns g.T.Shaped.data.shape [] =
    c.clear.ensures.empty ∙ g.met.T.Encoder.Encoder.of_shape c.args.self.now.encoder in
    rw (p.1, p.2)
    (record {
      written = tt;
      refused = refusal_weaker _ (long_listing g.T.Shaped.data.lists g.T.Shaped.data.shape c.args.t.now _ none_yet) c.in_err-write_one.ensures.refused;
    })

pub returns : goal.returns
returns g c =
    let one = c.in_ok-write_one.ensures.written in
    let none_yet : g.T.Encoder.HoldsColumns.columns c.clear.new.self ≡ written_columns g.T.Shaped.data.shape [] =
    c.clear.ensures.empty ∙ g.met.T.Encoder.Encoder.of_shape c.args.self.now.encoder in
    record {
      written =
          encoding_of-joined g.T.Shaped.data.lists g.T.Shaped.data.shape c.args.t.now _ none_yet _ _ one.joined
          (c.as_slice.ensures.value ∙ rw c.clear-2.ensures.items at one.written);
      refused = tt;
    }
