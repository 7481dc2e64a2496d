-- The lengths that were compared with the capacity are those that are read.
use Rattle.bitcode_coder.specs.Length.{short_left, large_left, lengths_left}
use Rattle.bitcode_coder.proofs.LengthRefusalLemmas.{cap_kept}
use Rattle.bitcode_schema.proofs.make.leaf_values.capped_lengths.Goals as goal

pub returns-clause-read : goal.returns-clause-read
unfolding short_left large_left lengths_left
returns-clause-read c =
    let r = c.in_ok-populate-2.ensures.read in
    record {
      size = r.size;
      piece = r.piece;
      whole = r.whole;
      spelled = cap_kept c.args.capacity c.args.k _ _ _ _ c.in_ok-populate.ensures.parts (rw c.if-exceed.false at c.exceed.ensures) r;
    }
