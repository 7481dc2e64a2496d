-- Both parts are without columns.
use Rattle.std.proofs.Common.{◌&&◌, ap, sym, ◌∙◌}
use Rattle.bitcode_untyped.specs.Bounds.{all_free}
use Rattle.bitcode_serde_types.proofs.PartsRead.{joined_free}
use Rattle.bitcode_serde_types.proofs.parts.are_free_in_parts.Goals as goal

pub returns-then-are_free : goal.returns-then-are_free
returns-then-are_free g c = λ left.
    let ps = g.P.HasShapes.trees left in
    let rs = g.R.HasShapes.trees left in
    c.are_free-then-are_free.ensures left
    ∙ sym (joined_free ps rs ∙ ap (λ b. b && all_free rs) (sym (c.are_free.ensures left) ∙ c.if-are_free.true))

pub returns-else-are_free : goal.returns-else-are_free
returns-else-are_free g c = λ left.
    let ps = g.P.HasShapes.trees left in
    let rs = g.R.HasShapes.trees left in
    c.if-are_free.false ∙ sym (joined_free ps rs ∙ ap (λ b. b && all_free rs) (sym (c.are_free.ensures left) ∙ c.if-are_free.false))
