-- What reads a column refuses by the fault that it names.
use Rattle.std.proofs.lemmas.Result.{IfErr-weaker}
use Rattle.bitcode_coder.proofs.StrLemmas.{text_refusal}
use Rattle.bitcode_coder.proofs.str.decoder.StrDecoderView.read.Goals as goal

pub returns-clause-refused : goal.returns-clause-refused
returns-clause-refused c =
    IfErr-weaker c.read_column.result _ _ (λ e named. text_refusal e.reason c.args.k c.args.input.now.now named) c.read_column.ensures.refused
