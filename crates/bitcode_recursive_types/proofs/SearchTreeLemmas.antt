-- The content of a struct with options, by these. Written by `scripts/second_format`.
use Rattle.std.proofs.Common.{◌≡◌, Option, Some, None, Box, Global, refl, ap, ◌∙◌}
use Rattle.bitcode_serde_types.specs.Written.{Datum, tuple, no_data, datum_and, natural, option_datum}
use Rattle.bitcode_recursive_types.specs.SearchTreeShape.{search_tree_step, search_tree_datum}
use Rattle.bitcode_recursive_types.specs.declared.search_tree.SearchTree.TheFolds.{map-SearchTree}
use Rattle.bitcode_recursive_types.specs.declared.search_tree.SearchTree.TheShapes.{former-SearchTree-left}
use Rattle.bitcode_recursive_types.specs.declared.search_tree.SearchTree.{SearchTree}
use Rattle.bitcode_recursive_types.specs.declared.search_tree.SearchTree.TheOpen.{SearchTree-F}

search_tree_option : (o : Option (Box SearchTree Global)) → option_datum (λ b. b.value) (former-SearchTree-left.map SearchTree Datum search_tree_datum o) ≡ option_datum (λ b. search_tree_datum b.value) o
search_tree_option None = refl
search_tree_option (Some b) = refl

pub search_tree_content : (t : SearchTree-F SearchTree) → search_tree_step (map-SearchTree SearchTree Datum search_tree_datum t) ≡ tuple (datum_and (option_datum (λ b. search_tree_datum b.value) t.left) (datum_and (natural t.key) (datum_and (option_datum (λ b. search_tree_datum b.value) t.right) no_data)))
search_tree_content t =
    ap (λ z. tuple (datum_and z (datum_and (natural t.key) (datum_and (option_datum (λ b. b.value) (former-SearchTree-left.map SearchTree Datum search_tree_datum t.right)) no_data)))) (search_tree_option t.left)
    ∙ ap (λ z. tuple (datum_and (option_datum (λ b. search_tree_datum b.value) t.left) (datum_and (natural t.key) (datum_and z no_data)))) (search_tree_option t.right)
