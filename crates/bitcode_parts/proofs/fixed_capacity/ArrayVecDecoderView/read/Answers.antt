-- The lengths are read, then the elements from what is left, and then the lengths are held to the limit.
use Rattle.std.proofs.Common.{None, Some, refl, inl, inr, ◌∙◌}
use Rattle.std.proofs.lemmas.Result.{err_from_is_err_and}
use Rattle.bitcode_columns.proofs.ReadingLemmas.{OnErr-always}
use Rattle.bitcode_coder.specs.Length.{short_left, large_left, lengths_left}
use Rattle.bitcode_coder.proofs.LengthPartLemmas.{ends_behind_read, reads_lengths}
use Rattle.bitcode_parts.proofs.ListLimitLemmas.{lengths_within}
use Rattle.bitcode_parts.proofs.ListLemmas.{reads_sequence, counts_sequence, judges_sequence, refuses_lengths, refuses_elements, refuses_cap}
use Rattle.bitcode_parts.proofs.fixed_capacity.ArrayVecDecoderView.read.Goals as goal

pub returns-in_err-lengths_written-clause-refused : goal.returns-in_err-lengths_written-clause-refused
returns-in_err-lengths_written-clause-refused g c =
    let refused = err_from_is_err_and c.from_residual.result c.from_residual.ensures.1 in
    rw (refused.1, refused.2) (refuses_lengths (Some g.row.N) g.D.HoldsData.shape c.args.k _ _ c.in_err-lengths_written.ensures.refused)

pub returns-in_err-lengths_written-clause-exact : goal.returns-in_err-lengths_written-clause-exact
returns-in_err-lengths_written-clause-exact g c =
    let refused = err_from_is_err_and c.from_residual.result c.from_residual.ensures.1 in
    rw (refused.1, refused.2) (inl (inl c.in_err-lengths_written.ensures.refused))

pub returns-in_err-elements_written-clause-refused : goal.returns-in_err-elements_written-clause-refused
returns-in_err-elements_written-clause-refused g c =
    let refused = err_from_is_err_and c.from_residual-in_err-elements_written.result c.from_residual-in_err-elements_written.ensures.1 in
    rw (refused.1, refused.2)
    (refuses_elements (Some g.row.N) g.D.HoldsData.shape c.args.k _ _ _ _ c.in_ok-lengths_written.ensures.read
    (rw (c.length.ensures, c.in_ok-lengths_written.ensures.sum) at c.in_err-elements_written.ensures.refused))

pub returns-in_err-elements_written-clause-exact : goal.returns-in_err-elements_written-clause-exact
returns-in_err-elements_written-clause-exact g c =
    let refused = err_from_is_err_and c.from_residual-in_err-elements_written.result c.from_residual-in_err-elements_written.ensures.1 in
    rw (refused.1, refused.2)
    (inl (inr (record {
      entries = _;
      rest = _;
      read = c.in_ok-lengths_written.ensures.read;
      fault = rw (c.length.ensures, c.in_ok-lengths_written.ensures.sum) at c.in_err-elements_written.ensures.exact;
    })))

pub returns-in_err-elements_written-clause-rest : goal.returns-in_err-elements_written-clause-rest
returns-in_err-elements_written-clause-rest g c =
    OnErr-always c.from_residual-in_err-elements_written.result
    (ends_behind_read c.read-2.new.input.now c.in_ok-lengths_written.ensures.read c.in_err-elements_written.ensures.rest)

pub returns-then-any_greater_than-clause-refused : goal.returns-then-any_greater_than-clause-refused
unfolding short_left large_left lengths_left
returns-then-any_greater_than-clause-refused g c =
    rw c.err.ensures (
      tt,
      λ other.
          refuses_cap (Some g.row.N) g.D.HoldsData.shape c.args.k c.args.input.now.now (short_left c.read.new.self) (large_left c.read.new.self)
          c.read.new.input.now c.in_ok-lengths_written.ensures.parts c.if-any_greater_than.ensures,
    )

pub returns-then-any_greater_than-clause-exact : goal.returns-then-any_greater_than-clause-exact
unfolding short_left large_left lengths_left
returns-then-any_greater_than-clause-exact g c =
    rw c.err.ensures
    (inr (record {
      is = refl;
      lists = _;
      rest = c.read-2.new.input.now;
      read = reads_sequence None g.D.HoldsData.shape c.args.k c.read-2.new.input.now (g.D.HoldsData.held c.read-2.new.self) c.in_ok-lengths_written.ensures.read
          (rw (c.length.ensures, c.in_ok-lengths_written.ensures.sum) at c.in_ok-elements_written.ensures.read);
      over = refuses_cap (Some g.row.N) g.D.HoldsData.shape c.args.k c.args.input.now.now (short_left c.read.new.self) (large_left c.read.new.self)
          c.read.new.input.now c.in_ok-lengths_written.ensures.parts c.if-any_greater_than.ensures;
    }))

pub returns-then-any_greater_than-clause-rest : goal.returns-then-any_greater_than-clause-rest
returns-then-any_greater_than-clause-rest g c =
    let read = c.in_ok-elements_written.ensures.read in
    OnErr-always c.err.result
    (ends_behind_read c.read-2.new.input.now c.in_ok-lengths_written.ensures.read (record { taken = read.piece; whole = read.whole }))

pub invariant_of-self-2 : goal.invariant_of-self-2
unfolding short_left large_left lengths_left
invariant_of-self-2 g c = record {
  capped = lengths_within (Some g.row.N) (short_left c.read.new.self) (large_left c.read.new.self) c.if-any_greater_than.ensures;
}

pub returns-clause-read : goal.returns-clause-read
unfolding short_left large_left lengths_left
returns-clause-read g c =
    reads_sequence (Some g.row.N) g.D.HoldsData.shape c.args.k c.read-2.new.input.now (g.D.HoldsData.held c.read-2.new.self)
    (reads_lengths (Some g.row.N) c.args.k c.args.input.now.now (short_left c.read.new.self) (large_left c.read.new.self) c.read.new.input.now
    c.in_ok-lengths_written.ensures.parts c.in_ok-lengths_written.ensures.read.spelled.below_limit c.if-any_greater_than.ensures)
    (rw (c.length.ensures, c.in_ok-lengths_written.ensures.sum) at c.in_ok-elements_written.ensures.read)

pub returns-clause-counted : goal.returns-clause-counted
returns-clause-counted g c =
    counts_sequence (Some g.row.N) g.D.HoldsData.shape c.args.k (lengths_left c.read.new.self) (g.D.HoldsData.held c.read-2.new.self) _ _
    c.in_ok-lengths_written.ensures.sum (c.in_ok-elements_written.ensures.read.size ∙ c.length.ensures) c.in_ok-elements_written.ensures.counted

pub returns-clause-judged : goal.returns-clause-judged
unfolding short_left large_left lengths_left
returns-clause-judged g c = λ strict.
    rw c.both.ensures
    (judges_sequence (Some g.row.N) g.D.HoldsData.shape c.args.k _ _ _ _ c.in_ok-lengths_written.ensures.read
    (rw (c.length.ensures, c.in_ok-lengths_written.ensures.sum) at c.in_ok-elements_written.ensures.read) (c.in_ok-lengths_written.ensures.judged strict)
    (c.in_ok-elements_written.ensures.judged strict))
