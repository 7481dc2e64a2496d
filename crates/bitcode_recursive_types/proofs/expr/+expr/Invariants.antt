-- Written by `scripts/second_format`.
use Rattle.std.proofs.Common.{◌*◌, ◌+◌}
use Rattle.std.proofs.Common.{string_bytes}
use Rattle.bitcode_serde_types.specs.Written.{text, text_tree}
use Rattle.bitcode_serde_types.proofs.StepsRead.{PairsKept, ItemsKept}
use Rattle.bitcode_recursive_types.specs.ExprShape.{expr_tree, expr_datum}
use Rattle.bitcode_recursive_types.proofs.expr.+expr.Given as goal

abbrev pub decreases-read_expr : goal.decreases-read_expr
decreases-read_expr l = 3 * l.left

abbrev pub decreases-read_expr_add : goal.decreases-read_expr_add
decreases-read_expr_add l = 3 * l.left + 2

abbrev pub decreases-read_expr_call : goal.decreases-read_expr_call
decreases-read_expr_call l = 3 * l.left + 2

abbrev pub decreases-read_expr_bind : goal.decreases-read_expr_bind
decreases-read_expr_bind l = 3 * l.left + 2

abbrev pub invariant-read_expr_call-loop-i : goal.invariant-read_expr_call-loop-i
invariant-read_expr_call-loop-i l =
    ItemsKept expr_datum (expr_tree l.left) l.found1.place l.initial.reader l.initial.budget l._i l.field1.items l.reader l.budget

abbrev pub decreases-read_expr_by_string : goal.decreases-read_expr_by_string
decreases-read_expr_by_string l = 3 * l.left + 1

abbrev pub invariant-read_expr_by_string-loop-i : goal.invariant-read_expr_by_string-loop-i
invariant-read_expr_by_string-loop-i l =
    PairsKept (λ s. text (string_bytes s)) expr_datum text_tree (expr_tree l.left) l.found.keys l.found.values
    l.initial.reader l.initial.budget l._i l.pairs.items l.reader l.budget
