-- Written by `scripts/second_format`.
use Rattle.bitcode_serde_types.proofs.StepsRead.{ItemsKept}
use Rattle.bitcode_recursive_types.specs.CommentShape.{comment_tree, comment_datum}
use Rattle.bitcode_recursive_types.proofs.comment.+comment.Given as goal

abbrev pub decreases-read_comment : goal.decreases-read_comment
decreases-read_comment l = l.left

abbrev pub invariant-loop-i : goal.invariant-loop-i
invariant-loop-i l =
    ItemsKept comment_datum (comment_tree l.below) l.found1.place l.initial.reader l.initial.budget l._i l.replies.items l.reader l.budget
