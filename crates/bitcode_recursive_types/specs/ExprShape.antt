-- The shapes of `Expr`, and the content of their values. Written by `scripts/second_format`.
use Rattle.std.specs.Prelude.{ℕ, zero, suc, string_bytes}
use Rattle.bitcode_serde_types.specs.Written.{Datum, number, text, list, tuple, choice, no_data, datum_and, data_of, width_8, ShapeTree, ShapeTrees, never_tree, integer_tree, text_tree, seq_tree, map_tree, tuple_tree, choice_tree, no_trees, tree_and, IsSound, map_datum}
use Rattle.bitcode_recursive_types.specs.declared.expr.Expr.{Expr, fold-Expr}
use Rattle.bitcode_recursive_types.specs.declared.expr.Expr.TheOpen.{Expr-F}

-- by how many references may be followed on one path
abbrev pub expr_tree : ℕ → ShapeTree
expr_tree zero = never_tree
expr_tree (suc left) = choice_tree (tree_and (integer_tree 8) (tree_and (expr_tree left) (tree_and (tuple_tree (tree_and (expr_tree left) (tree_and (expr_tree left) no_trees))) (tree_and (tuple_tree (tree_and text_tree (tree_and (seq_tree (expr_tree left)) no_trees))) (tree_and (tuple_tree (tree_and (map_tree text_tree (expr_tree left)) (tree_and (expr_tree left) no_trees))) no_trees)))))

-- what each variant holds of `Expr`
abbrev pub expr_trees : ℕ → ShapeTrees
expr_trees left = (tree_and (integer_tree 8) (tree_and (expr_tree left) (tree_and (tuple_tree (tree_and (expr_tree left) (tree_and (expr_tree left) no_trees))) (tree_and (tuple_tree (tree_and text_tree (tree_and (seq_tree (expr_tree left)) no_trees))) (tree_and (tuple_tree (tree_and (map_tree text_tree (expr_tree left)) (tree_and (expr_tree left) no_trees))) no_trees)))))

abbrev pub expr_add_trees : ℕ → ShapeTrees
expr_add_trees left = (tree_and (expr_tree left) (tree_and (expr_tree left) no_trees))

abbrev pub expr_call_trees : ℕ → ShapeTrees
expr_call_trees left = (tree_and text_tree (tree_and (seq_tree (expr_tree left)) no_trees))

abbrev pub expr_bind_trees : ℕ → ShapeTrees
expr_bind_trees left = (tree_and (map_tree text_tree (expr_tree left)) (tree_and (expr_tree left) no_trees))

-- one level, with the content of each value inside in its place
abbrev pub expr_step : Expr-F Datum → Datum
expr_step (Expr-F.Num x0) = choice 0 (number x0)
expr_step (Expr-F.Neg x0) = choice 1 x0.value
expr_step (Expr-F.Add x0 x1) = choice 2 (tuple (datum_and x0.value (datum_and x1.value no_data)))
expr_step (Expr-F.Call x0 x1) = choice 3 (tuple (datum_and (text (string_bytes x0)) (datum_and (list (data_of x1.items)) no_data)))
expr_step (Expr-F.Bind x0 x1) = choice 4 (tuple (datum_and (map_datum (λ s. text (string_bytes s)) (λ d. d) x0.entries) (datum_and x1.value no_data)))

abbrev pub expr_datum : Expr → Datum
expr_datum = fold-Expr Datum expr_step

pub expr_sound : (left : ℕ) → IsSound (expr_tree left)
expr_sound zero = tt
expr_sound (suc left) = (width_8, ((expr_sound left), (((expr_sound left), ((expr_sound left), tt)), ((tt, ((expr_sound left), tt)), (((tt, (expr_sound left)), ((expr_sound left), tt)), tt)))))
