-- The tag, and the number at its width.
use Rattle.std.proofs.Common.{ℕ, ◌-◌, ◌*◌, ◌%◌, ◌^◌, [], ◌∷◌, ◌++◌, ap, ◌∙◌, append_assoc}
use Rattle.bitcode_memory.specs.Ints.{residue}
use Rattle.bitcode_columns.specs.IntColumn.{halvings, narrow_text}
use Rattle.bitcode_int_columns.proofs.SingleLemmas.{single_written}
use Rattle.bitcode_int_columns.proofs.pack_ints.single.pack_int.Goals as goal

pub returns-clause-written : goal.returns-clause-written
returns-clause-written g c =
    let z = g.T.Int.number c.args.int in
    let plain = c.plain_width-width.result in
    let old = c.args.out.now.items in
    let text = λ (n : ℕ). narrow_text plain (n % 256 ^ plain ∷ []) in
    single_written g.T.Int.width plain g.T.Int.signed z old c.push_narrow.new.out.items g.met.T.Int.width_law c.requires c.to_unsigned.ensures.in_range
    c.plain_width-width.ensures
    (c.push_narrow.ensures
    ∙ ap (λ n. c.push_reserved.new.self.items ++ text n) (c.to_wide.ensures.same ∙ c.to_unsigned.ensures.value)
    ∙ ap (λ front. front ++ text (residue g.T.Int.width z))
    (c.push_reserved.ensures.items ∙ ap (λ front. front ++ c.tag_for.result ∷ []) c.in_ok-reserve.ensures.items)
    ∙ append_assoc old (c.tag_for.result ∷ []) (text (residue g.T.Int.width z))
    ∙ ap (λ tag. old ++ (tag ∷ text (residue g.T.Int.width z))) (c.tag_for.ensures ∙ ap (λ w. 2 * (halvings w - halvings plain)) c.width.ensures))
