-- Variants without payloads are read as their column alone.
use Rattle.std.proofs.lemmas.Result.{IfErr-weaker, on_ok_weaker}
use Rattle.bitcode_parts.proofs.BareVariantLemmas.{reads_bare, judges_bare, refuses_bare, fault_of_bare}
use Rattle.bitcode_parts.proofs.ColumnFreeLemmas.{counts_bare}
use Rattle.bitcode_parts.proofs.choices.variant.VariantDecoderView.read.Goals as goal

pub returns-clause-read : goal.returns-clause-read
returns-clause-read g c = on_ok_weaker c.read.result (reads_bare g.row.N c.args.k c.args.input.now.now c.read.new.input.now _) c.read.ensures.read

pub returns-clause-counted : goal.returns-clause-counted
returns-clause-counted g c = on_ok_weaker c.read.result (λ _. counts_bare g.row.N _) c.read.ensures.read

pub returns-clause-refused : goal.returns-clause-refused
returns-clause-refused g c = IfErr-weaker c.read.result _ _ (λ e h. refuses_bare g.row.N c.args.k c.args.input.now.now e.reason h) c.read.ensures.refused

pub returns-clause-exact : goal.returns-clause-exact
returns-clause-exact g c = IfErr-weaker c.read.result _ _ (λ e h. fault_of_bare g.row.N c.args.k c.args.input.now.now e.reason h) c.read.ensures.refused

pub returns-clause-judged : goal.returns-clause-judged
returns-clause-judged g c = λ strict. judges_bare g.row.N c.args.k c.args.input.now.now c.read.new.input.now _ c.read.result c.read.ensures.read (c.read.ensures.judged strict)
