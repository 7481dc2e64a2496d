-- The length is a short byte.
use Rattle.bitcode_memory.specs.Fast.{fast_items}
use Rattle.bitcode_coder.specs.Length.{written_lengths}
use Rattle.bitcode_coder.proofs.LengthPartLemmas.{pushed_short}
use Rattle.bitcode_coder.proofs.length.encoder.LengthEncoder.encode_less_than_255.Goals as goal

pub invariant_of-self : goal.invariant_of-self
invariant_of-self c = record {
  split = (pushed_short (fast_items c.args.self.now.small) c.args.self.now.large.items (fast_items c.push_unchecked.new.self) c.args.length
      c.requires.below c.args.self.now.split c.push_unchecked.ensures.items).1;
}

pub returns-clause-written : goal.returns-clause-written
unfolding written_lengths
returns-clause-written c =
    (pushed_short (fast_items c.args.self.now.small) c.args.self.now.large.items (fast_items c.push_unchecked.new.self) c.args.length
    c.requires.below c.args.self.now.split c.push_unchecked.ensures.items).0
