use Rattle.std.proofs.Common.{None}
use Rattle.bitcode_shapes.specs.Shape.{text_shape}
use Rattle.bitcode_tuples.proofs.StructLemmas.{struct_stopped, struct_judged, struct_refused, struct_exact}
use Rattle.bitcode_test_support.proofs.by_hand.foo.FooDecoderView.read.Goals as goal

pub returns-in_err-x-clause-refused : goal.returns-in_err-x-clause-refused
returns-in_err-x-clause-refused c = struct_stopped _ _ _ c.from_residual.ensures.1 c.in_err-x.ensures.refused

pub returns-in_err-y-clause-refused : goal.returns-in_err-y-clause-refused
returns-in_err-y-clause-refused c = struct_refused _ _ _ c.from_residual-in_err-y.ensures.1 c.in_ok-x.ensures.read c.in_err-y.ensures.refused

pub returns-in_err-y-clause-exact : goal.returns-in_err-y-clause-exact
returns-in_err-y-clause-exact c = struct_exact (text_shape None) _ _ c.from_residual-in_err-y.ensures.1 c.in_ok-x.ensures.read c.in_err-y.ensures.exact

pub returns-clause-judged : goal.returns-clause-judged
returns-clause-judged c strict =
    rw c.both.ensures
    (struct_judged _ _ _ _ _ c.in_ok-x.ensures.read c.in_ok-y.ensures.read (c.in_ok-x.ensures.judged strict) (c.in_ok-y.ensures.judged strict))
