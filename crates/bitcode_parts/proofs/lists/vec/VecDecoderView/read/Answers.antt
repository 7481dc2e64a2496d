-- The lengths are read, and then the elements from what is left.
use Rattle.std.proofs.Common.{None, inl, inr, length, sym, ap, ◌∙◌}
use Rattle.std.proofs.lemmas.Result.{err_from_is_err_and}
use Rattle.bitcode_columns.proofs.ReadingLemmas.{OnErr-always}
use Rattle.bitcode_coder.specs.Length.{lengths_left}
use Rattle.bitcode_coder.proofs.LengthPartLemmas.{ends_behind_read}
use Rattle.bitcode_parts.proofs.ListLemmas.{joined-lists_of, reads_sequence, counts_sequence, judges_sequence, refuses_lengths, refuses_elements}
use Rattle.bitcode_parts.proofs.lists.vec.VecDecoderView.read.Goals as goal

pub returns-in_err-lengths-clause-refused : goal.returns-in_err-lengths-clause-refused
returns-in_err-lengths-clause-refused g c =
    let refused = err_from_is_err_and c.from_residual.result c.from_residual.ensures.1 in
    rw (refused.1, refused.2) (refuses_lengths None g.D.HoldsData.shape c.args.k _ _ c.in_err-lengths.ensures.refused)

pub returns-in_err-lengths-clause-exact : goal.returns-in_err-lengths-clause-exact
returns-in_err-lengths-clause-exact g c =
    let refused = err_from_is_err_and c.from_residual.result c.from_residual.ensures.1 in
    rw (refused.1, refused.2) (inl c.in_err-lengths.ensures.refused)

pub returns-in_err-elements-clause-refused : goal.returns-in_err-elements-clause-refused
returns-in_err-elements-clause-refused g c =
    let refused = err_from_is_err_and c.from_residual-in_err-elements.result c.from_residual-in_err-elements.ensures.1 in
    rw (refused.1, refused.2)
    (refuses_elements None g.D.HoldsData.shape c.args.k _ _ _ _ c.in_ok-lengths.ensures.read
    (rw (c.length.ensures, c.in_ok-lengths.ensures.sum) at c.in_err-elements.ensures.refused))

pub returns-in_err-elements-clause-exact : goal.returns-in_err-elements-clause-exact
returns-in_err-elements-clause-exact g c =
    let refused = err_from_is_err_and c.from_residual-in_err-elements.result c.from_residual-in_err-elements.ensures.1 in
    rw (refused.1, refused.2)
    (inr (record {
      entries = _;
      rest = _;
      read = c.in_ok-lengths.ensures.read;
      fault = rw (c.length.ensures, c.in_ok-lengths.ensures.sum) at c.in_err-elements.ensures.exact;
    }))

pub returns-in_err-elements-clause-rest : goal.returns-in_err-elements-clause-rest
returns-in_err-elements-clause-rest g c =
    OnErr-always c.from_residual-in_err-elements.result (ends_behind_read _ c.in_ok-lengths.ensures.read c.in_err-elements.ensures.rest)

pub returns-clause-read : goal.returns-clause-read
returns-clause-read g c =
    reads_sequence None g.D.HoldsData.shape c.args.k _ _ c.in_ok-lengths.ensures.read
    (rw (c.length.ensures, c.in_ok-lengths.ensures.sum) at c.in_ok-elements.ensures.read)

pub returns-clause-counted : goal.returns-clause-counted
returns-clause-counted g c =
    counts_sequence None g.D.HoldsData.shape c.args.k (lengths_left c.read.new.self) (g.D.HoldsData.held c.read-2.new.self) _ _ c.in_ok-lengths.ensures.sum
    (c.in_ok-elements.ensures.read.size ∙ c.length.ensures) c.in_ok-elements.ensures.counted

pub returns-clause-total : goal.returns-clause-total
returns-clause-total g c =
    let size = c.in_ok-elements.ensures.read.size ∙ c.length.ensures in
    sym size
    ∙ ap length (sym (joined-lists_of (lengths_left c.read.new.self) (g.D.HoldsData.held c.read-2.new.self) (sym c.in_ok-lengths.ensures.sum ∙ sym size)))

pub returns-clause-judged : goal.returns-clause-judged
returns-clause-judged g c strict =
    rw c.both.ensures
    (judges_sequence None g.D.HoldsData.shape c.args.k _ _ _ _ c.in_ok-lengths.ensures.read
    (rw (c.length.ensures, c.in_ok-lengths.ensures.sum) at c.in_ok-elements.ensures.read) (c.in_ok-lengths.ensures.judged strict) (c.in_ok-elements.ensures.judged strict))
