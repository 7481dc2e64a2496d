-- The column of the one bool is its digit.
use Rattle.std.proofs.Common.{refl, map, ap, ◌∙◌, ◌++◌}
use Rattle.bitcode_memory.specs.Fast.{fast_items}
use Rattle.bitcode_shapes.specs.Shape.{bool_shape}
use Rattle.bitcode_shapes.specs.Ints.{ListsNumber, bool_number}
use Rattle.bitcode_coder.specs.Columns.{bools}
use Rattle.bitcode_coder.specs.Spelling.{truth}
use Rattle.bitcode_coder.proofs.OneValueLemmas.{one_truth, writes_entry}
use Rattle.bitcode_coder.proofs.bool.BoolEncoderEncoderBool.write_directly.Goals as goal

pub returns-clause-written : goal.returns-clause-written
returns-clause-written c done =
    writes_entry (ListsNumber bool_number) bool_shape bools c.args.t.now (truth c.args.t.now) (map truth (fast_items c.args.self.now.values))
    c.args.out.now.items c.push.new.self.items (λ ds. refl) refl c.requires
    (c.in_ok-push.ensures.items ∙ ap (λ bytes. c.args.out.now.items ++ bytes) (one_truth c.args.t.now))
