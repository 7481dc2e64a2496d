-- Lists, entry by entry, and values by the variant.
use Rattle.std.proofs.Common.{arith, sym, ◌∙◌}
use Rattle.bitcode_untyped.specs.Same.{same_values, same_pairs}
use Rattle.bitcode_untyped.proofs.SameLemmas.{same-Bytes, same-Seq, same-Map, same-Tuple, differs_at, same_so_far, all_met, other_key, other_entry, same_pair}
use Rattle.bitcode_untyped.proofs.same.+same.Goals as goal

pub all_pairs_same-returns-then-not-same : goal.all_pairs_same-returns-then-not-same
all_pairs_same-returns-then-not-same t c =
    let pair = c.index-pairs-i.result in
    let other = c.index-others-i.result in
    sym (differs_at same_pairs c.args.pairs.now c.args.others.now c.loop-i.i pair other c.loop-i-test.true c.index-pairs-i.is c.index-others-i.is
    (other_key pair other (sym c.same.ensures ∙ c.if-not-same.true)))

pub all_pairs_same-returns-then-not-same-2 : goal.all_pairs_same-returns-then-not-same-2
all_pairs_same-returns-then-not-same-2 t c =
    let pair = c.index-pairs-i.result in
    let other = c.index-others-i.result in
    sym (differs_at same_pairs c.args.pairs.now c.args.others.now c.loop-i.i pair other c.loop-i-test.true c.index-pairs-i.is c.index-others-i.is
    (other_entry pair other (sym c.same-in-loop-i.ensures ∙ c.if-not-same-2.true)))

pub all_pairs_same-loop-i-preserved : goal.all_pairs_same-loop-i-preserved
all_pairs_same-loop-i-preserved t c =
    let pair = c.index-pairs-i.result in
    let other = c.index-others-i.result in
    same_so_far same_pairs c.args.pairs.now c.args.others.now c.loop-i.i pair other c.loop-i-test.true c.index-pairs-i.is c.index-others-i.is
    c.if-pairs-others.false
    (same_pair pair other (sym c.same.ensures ∙ c.if-not-same.false) (sym c.same-in-loop-i.ensures ∙ c.if-not-same-2.false)) c.loop-i.invariant

pub all_pairs_same-returns : goal.all_pairs_same-returns
all_pairs_same-returns t c =
    let past = c.loop-i-test.false in
    let within = c.loop-i.auto.i-end in
    all_met same_pairs c.args.pairs.now c.args.others.now c.loop-i.i (omega (arith, past, within)) c.if-pairs-others.false c.loop-i.invariant

pub all_same-returns-then-not-same : goal.all_same-returns-then-not-same
all_same-returns-then-not-same t c =
    sym (differs_at same_values c.args.values.now c.args.others.now c.loop-i.i c.index-values-i.result c.index-others-i.result c.loop-i-test.true
    c.index-values-i.is c.index-others-i.is (sym c.same.ensures ∙ c.if-not-same.true))

pub all_same-loop-i-preserved : goal.all_same-loop-i-preserved
all_same-loop-i-preserved t c =
    same_so_far same_values c.args.values.now c.args.others.now c.loop-i.i c.index-values-i.result c.index-others-i.result c.loop-i-test.true
    c.index-values-i.is c.index-others-i.is c.if-values-others.false (sym c.same.ensures ∙ c.if-not-same.false) c.loop-i.invariant

pub all_same-returns : goal.all_same-returns
all_same-returns t c =
    let past = c.loop-i-test.false in
    let within = c.loop-i.auto.i-end in
    all_met same_values c.args.values.now c.args.others.now c.loop-i.i (omega (arith, past, within)) c.if-values-others.false c.loop-i.invariant

pub same-returns-in-Bytes-other : goal.same-returns-in-Bytes-other
same-returns-in-Bytes-other t c =
    rw (c.in-Bytes.is, c.in-Bytes-other.is, same-Bytes c.in-Bytes.a c.in-Bytes-other.b, ← c.as_slice.ensures.value, ← c.as_slice-in-Bytes-other.ensures.value)
    c.eq-in-Bytes-other.ensures

pub same-returns-in-Seq-other : goal.same-returns-in-Seq-other
same-returns-in-Seq-other t c =
    rw (c.in-Seq.is, c.in-Seq-other.is, same-Seq c.in-Seq.a c.in-Seq-other.b, ← c.deref-in-Seq-other.ensures.value, ← c.deref-in-Seq-other-2.ensures.value)
    c.all_same.ensures

pub same-returns-in-Map-other : goal.same-returns-in-Map-other
same-returns-in-Map-other t c =
    rw (c.in-Map.is, c.in-Map-other.is, same-Map c.in-Map.a c.in-Map-other.b, ← c.deref-in-Map-other.ensures.value, ← c.deref-in-Map-other-2.ensures.value)
    c.all_pairs_same.ensures

pub same-returns-in-Tuple-other : goal.same-returns-in-Tuple-other
same-returns-in-Tuple-other t c =
    rw (
      c.in-Tuple.is,
      c.in-Tuple-other.is,
      same-Tuple c.in-Tuple.a c.in-Tuple-other.b,
      ← c.deref-in-Tuple-other.ensures.value,
      ← c.deref-in-Tuple-other-2.ensures.value,
    )
    c.all_same-in-Tuple-other.ensures
