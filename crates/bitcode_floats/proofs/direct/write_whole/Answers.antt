-- The tag, and the bits behind it.
use Rattle.std.proofs.Common.{[], ◌∷◌, ◌++◌, map, ap, ◌∙◌, append_assoc}
use Rattle.std.specs.Prelude.{to_bits}
use Rattle.std.specs.Float.{binary64}
use Rattle.bitcode_memory.specs.LittleEndian.{raw_text}
use Rattle.bitcode_floats.proofs.direct.write_whole.Goals as goal

pub returns-clause-written : goal.returns-clause-written
returns-clause-written c =
    let text = raw_text 8 (map (λ x. to_bits binary64 x) c.args.floats.now) in
    c.push_all.ensures
    ∙ ap (λ start. start ++ text) (ap (λ v. v.items) c.replace-held.ensures.value ∙ c.push_reserved.ensures.items ∙ ap (λ front. front ++ 0 ∷ []) c.in_ok-reserve.ensures.items)
    ∙ append_assoc c.args.out.now.items (0 ∷ []) text
