-- The bytes follow the lengths.
use Rattle.std.proofs.Common.{◌≡◌, ◌++◌, length, ap, sym, ◌∙◌, append_assoc, arith}
use Rattle.std.proofs.lemmas.List.{append-nil, nil_from_length}
use Rattle.bitcode_coder.specs.LengthColumn.{length_bytes}
use Rattle.bitcode_coder.specs.Length.{written_lengths}
use Rattle.bitcode_coder.proofs.LengthPartLemmas.{naturals_in}
use Rattle.bitcode_coder.proofs.str.encoder.pack_texts.Goals as goal

pub returns-in_ok-extend_from_slice-clause-written : goal.returns-in_ok-extend_from_slice-clause-written
returns-in_ok-extend_from_slice-clause-written c =
    c.in_ok-extend_from_slice.ensures.items
    ∙ (ap (λ front. front ++ c.args.bytes.now) c.in_ok-collect_into.ensures.written
    ∙ (append_assoc c.args.out.now.items _ c.args.bytes.now
    ∙ ap (λ ns. c.args.out.now.items ++ (length_bytes ns ++ c.args.bytes.now)) (naturals_in (written_lengths c.args.lengths.now))))

pub returns-else-not-is_empty-clause-written : goal.returns-else-not-is_empty-clause-written
returns-else-not-is_empty-clause-written c =
    let none : length c.args.bytes.now ≡ 0 = grind (arith, c.is_empty.ensures, c.if-not-is_empty.false) in
    let lengths = length_bytes (written_lengths c.args.lengths.now) in
    c.in_ok-collect_into.ensures.written
    ∙ ap (λ ns. c.args.out.now.items ++ length_bytes ns) (naturals_in (written_lengths c.args.lengths.now))
    ∙ ap (λ text. c.args.out.now.items ++ text) (sym (ap (λ bytes. lengths ++ bytes) (nil_from_length c.args.bytes.now none) ∙ append-nil lengths))
