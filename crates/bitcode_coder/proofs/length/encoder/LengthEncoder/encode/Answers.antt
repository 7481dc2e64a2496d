-- A length below 255 is a short byte; a greater one is an escape and a large length.
use Rattle.bitcode_memory.specs.Fast.{fast_items}
use Rattle.bitcode_coder.specs.Length.{written_lengths}
use Rattle.bitcode_coder.proofs.LengthPartLemmas.{pushed_large}
use Rattle.bitcode_coder.proofs.length.encoder.LengthEncoder.encode.Goals as goal

pub invariant_of-self-else-length : goal.invariant_of-self-else-length
invariant_of-self-else-length c = record {
  split = (pushed_large (fast_items c.args.self.now.small) c.args.self.now.large.items (fast_items c.push_unchecked.new.self) c.push.new.self.items
      c.args.length c.if-length.false c.args.self.now.split c.push_unchecked.ensures.items c.in_ok-push.ensures.items).1;
}

pub returns-in_ok-push-clause-written : goal.returns-in_ok-push-clause-written
unfolding written_lengths
returns-in_ok-push-clause-written c =
    (pushed_large (fast_items c.args.self.now.small) c.args.self.now.large.items (fast_items c.push_unchecked.new.self) c.push.new.self.items
    c.args.length c.if-length.false c.args.self.now.split c.push_unchecked.ensures.items c.in_ok-push.ensures.items).0
