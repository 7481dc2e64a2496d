-- No large lengths add nothing.
use Rattle.std.proofs.Common.{◌≡◌, ◌++◌, length, map, pos, sym, ap, ◌∙◌, arith}
use Rattle.std.proofs.lemmas.List.{append-nil}
use Rattle.bitcode_columns.specs.ByteColumn.{byte_text}
use Rattle.bitcode_coder.proofs.LengthPartLemmas.{no_large}
use Rattle.bitcode_coder.proofs.length.encoder.pack_parts.Goals as goal

pub returns-then-is_empty-clause-written : goal.returns-then-is_empty-clause-written
returns-then-is_empty-clause-written c =
    let none : length c.args.large.now ≡ 0 = grind (arith, c.is_empty.ensures, c.if-is_empty.true) in
    let small = byte_text (map pos c.args.small.now) in
    c.in_ok-pack_bytes.ensures.written
    ∙ ap (λ text. c.args.out.now.items ++ text) (sym (ap (λ text. small ++ text) (no_large c.args.large.now none) ∙ append-nil small))
