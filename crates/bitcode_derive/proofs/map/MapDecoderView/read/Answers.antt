-- A map is read as the list of its entries.
use Rattle.std.proofs.lemmas.Result.{IfErr-weaker, on_ok_weaker}
use Rattle.bitcode_coder.specs.Length.{lengths_left}
use Rattle.bitcode_tuples.specs.Pairs.{pairs_of}
use Rattle.bitcode_parts.specs.Lists.{lists_of}
use Rattle.bitcode_derive.proofs.MapReadingLemmas.{reads_map, refuses_map, counts_map}
use Rattle.bitcode_derive.proofs.map.MapDecoderView.read.Goals as goal

pub returns-clause-read : goal.returns-clause-read
returns-clause-read g c = on_ok_weaker c.read.result (reads_map g.K.HoldsData.shape g.V.HoldsData.shape c.args.k c.args.input.now.now c.read.new.input.now _) c.read.ensures.read

pub returns-clause-counted : goal.returns-clause-counted
returns-clause-counted g c =
    let pairs = pairs_of (g.K.HoldsData.held c.read.new.self.elements.first) (g.V.HoldsData.held c.read.new.self.elements.second) in
    counts_map g.K.HoldsData.shape g.V.HoldsData.shape c.read.result _ _ (lists_of (lengths_left c.read.new.self.lengths) pairs)
    c.read.ensures.total c.read.ensures.counted

pub returns-clause-refused : goal.returns-clause-refused
returns-clause-refused g c = IfErr-weaker c.read.result _ _ (λ e h. refuses_map g.K.HoldsData.shape g.V.HoldsData.shape c.args.k c.args.input.now.now e.reason h) c.read.ensures.refused

pub returns-clause-exact : goal.returns-clause-exact
returns-clause-exact g c = c.read.ensures.exact

pub returns-clause-judged : goal.returns-clause-judged
returns-clause-judged g c = c.read.ensures.judged
