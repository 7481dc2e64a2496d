-- One value is written behind what was there: the encoder began without entries.
use Rattle.std.proofs.Common.{◌≡◌, [], ◌∙◌, refl}
use Rattle.std.proofs.lemmas.Result.{on_ok_weaker}
use Rattle.bitcode_memory.specs.declared.error.Error.{Error}
use Rattle.bitcode_coder.specs.Coder.{written_columns}
use Rattle.bitcode_coder.proofs.RefusalLemmas.{refused_weaker}
use Rattle.bitcode_derive.proofs.EncodingLemmas.{encoding_of-joined, long_listing}
use Rattle.bitcode_derive.proofs.whole.encode_into.Goals as goal

pub returns-clause-written : goal.returns-clause-written
returns-clause-written g c =
    let none_yet : g.T.Encoder.HoldsColumns.columns c.new-encoder.result ≡ written_columns g.T.Shaped.data.shape [] =
    c.new-encoder.ensures.empty ∙ g.met.T.Encoder.Encoder.of_shape c.new-encoder.result in
    on_ok_weaker c.write_one.result
    (λ one. record {
      encoding = _;
      behind = one.written;
      written = encoding_of-joined g.T.Shaped.data.lists g.T.Shaped.data.shape c.args.t.now _ none_yet _ _ one.joined refl;
    })
    c.write_one.ensures.written

pub returns-clause-refused : goal.returns-clause-refused
returns-clause-refused g c =
    let none_yet : g.T.Encoder.HoldsColumns.columns c.new-encoder.result ≡ written_columns g.T.Shaped.data.shape [] =
    c.new-encoder.ensures.empty ∙ g.met.T.Encoder.Encoder.of_shape c.new-encoder.result in
    refused_weaker (λ (e : Error). e.reason) c.write_one.result (long_listing g.T.Shaped.data.lists g.T.Shaped.data.shape c.args.t.now _ none_yet) c.write_one.ensures.refused
