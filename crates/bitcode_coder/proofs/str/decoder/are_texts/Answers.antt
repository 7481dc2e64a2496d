-- The pieces are UTF-8 exactly where the bytes are and are cut at characters.
use Rattle.std.specs.Str.{IsCharBoundary}
use Rattle.std.proofs.Common.{All, rules, subst, sym}
use Rattle.bitcode_coder.specs.JoinedTexts.{ends_from}
use Rattle.bitcode_coder.specs.Length.{lengths_left}
use Rattle.bitcode_coder.proofs.JoinedTextLemmas.{pieces_are_utf8, cut_at_chars, same_answer, ascii_pieces}
use Rattle.bitcode_coder.proofs.str.decoder.are_texts.Goals as goal

pub returns-in-Ok : goal.returns-in-Ok
returns-in-Ok c =
    let ns = lengths_left c.args.lengths.now in
    let bytes = c.args.bytes.now in
    let read = c.in-Ok.ensures.cases in
    same_answer c.ends_at_chars.result
    (λ ends. pieces_are_utf8 ns bytes c.requires (record { whole = read.1; ends = subst (λ whole. All (IsCharBoundary whole) (ends_from 0 ns)) read.0 ends }))
    (λ each. subst (λ whole. All (IsCharBoundary whole) (ends_from 0 ns)) (sym read.0) (cut_at_chars ns bytes c.requires each).ends)
    c.ends_at_chars.ensures

pub returns-in-Err : goal.returns-in-Err
returns-in-Err c each = c.in-Err.ensures.cases.0 (cut_at_chars (lengths_left c.args.lengths.now) c.args.bytes.now c.requires each).whole

pub returns-then-are_ascii : goal.returns-then-are_ascii
returns-then-are_ascii c = ascii_pieces (lengths_left c.args.lengths.now) c.args.bytes.now (c.are_ascii.ensures (search rules))
