use Rattle.std.proofs.Common.{ap, ◌∙◌}
use Rattle.bitcode_serde.specs.Links.{children, last_field, column_link}
use Rattle.bitcode_serde.proofs.LinkLemmas.{children_more, last_more, column_more}
use Rattle.bitcode_serde.proofs.places.make_room.Goals as goal

pub loop-alloc-preserved : goal.loop-alloc-preserved
loop-alloc-preserved c =
    let before = c.loop-alloc.links.items in
    let more = c.in_ok-push.ensures.items in
    record {
      children = λ above. ap (λ ls. children ls above) more ∙ children_more before c.new.result c.new.ensures.children above ∙ c.loop-alloc.invariant.children above;
      last = λ above. ap (λ ls. last_field ls above) more ∙ last_more before c.new.result c.new.ensures.last_field above ∙ c.loop-alloc.invariant.last above;
      columns = λ n. ap (λ ls. column_link ls n) more ∙ column_more before c.new.result c.new.ensures.column n ∙ c.loop-alloc.invariant.columns n;
    }
