use Rattle.std.proofs.lemmas.Result.{on_ok_weaker}
use Rattle.bitcode_tuples.proofs.StructLemmas.{struct_joins}
use Rattle.bitcode_test_support.specs.Foo.{foo_fields}
use Rattle.bitcode_test_support.proofs.by_hand.foo.FooEncoderEncoderFoo.encode.Goals as goal

pub returns-clause-joined : goal.returns-clause-joined
returns-clause-joined c = on_ok_weaker _ (struct_joins foo_fields c.args.t.now c.in_ok-encode.ensures.joined) c.encode-2.ensures.joined
