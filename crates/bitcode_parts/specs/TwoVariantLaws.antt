-- The laws of the coders of two variants follow from those of the coders of the payloads.
use Rattle.std.specs.Prelude.{◌≡◌, []}
use Rattle.std.proofs.Common.{ap₂}
use Rattle.bitcode_shapes.specs.Shape.{Shape, choice_shape, shape_and, no_shapes}
use Rattle.bitcode_coder.specs.Columns.{Columns, no_columns, one, two, variants}

pub same_two_variants : {s t u v : Shape} → s ≡ u → t ≡ v
    → choice_shape (shape_and s (shape_and t no_shapes)) ≡ choice_shape (shape_and u (shape_and v no_shapes))
same_two_variants e f = ap₂ (λ x y. choice_shape (shape_and x (shape_and y no_shapes))) e f

pub two_variants_form : {a b c d : Columns} → a ≡ c → b ≡ d
    → two (one (variants 2) []) (two a (two b no_columns)) ≡ two (one (variants 2) []) (two c (two d no_columns))
two_variants_form e f = ap₂ (λ x y. two (one (variants 2) []) (two x (two y no_columns))) e f
