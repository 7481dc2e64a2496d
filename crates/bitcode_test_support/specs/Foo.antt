-- A struct of two fields stands for the pair of them.
use Rattle.std.proofs.Common.{ℕ, List, Bor}
use Rattle.bitcode_test_support.specs.declared.by_hand.foo.Foo.{Foo}

abbrev pub foo_fields : Foo → ℕ × Bor (List ℕ)
foo_fields t = (t.x, t.y)
