-- What is taken and what is left are what was left.
use Rattle.std.proofs.Common.{rules, ◌+◌, ◌++◌, ◌≤◌, length, sym, subst, ap, ◌∙◌}
use Rattle.std.specs.List.{slice_range}
use Rattle.bitcode_memory.specs.Fast.{cow_rest}
use Rattle.bitcode_serde.specs.Indices.{indices_left}
use Rattle.bitcode_serde.proofs.IndexLemmas.{indices_within, indices_taken}
use Rattle.bitcode_serde.proofs.serde.decoder.VariantDecoder.take.Goals as goal

pub overflow_add-end : goal.overflow_add-end
unfolding indices_left
overflow_add-end c =
    let old = c.args.self.now in
    let h = subst (λ xs. old.position + c.args.count ≤ length xs) (sym c.as_slice-all.ensures)
    (indices_within (cow_rest old.indices) old.position c.args.count old.inside c.requires) in
    search (rules, h)

pub returns-clause-taken : goal.returns-clause-taken
unfolding indices_left
returns-clause-taken c =
    let old = c.args.self.now in
    indices_taken (cow_rest old.indices) c.extend_from_slice.new.self.items old.position c.args.count
    (c.in_ok-extend_from_slice.ensures.items
    ∙ ap (λ xs. xs ++ slice_range c.as_slice-all.result.now old.position (old.position + c.args.count)) c.new-taken.ensures.items
    ∙ ap (λ xs. slice_range xs old.position (old.position + c.args.count)) c.as_slice-all.ensures)
