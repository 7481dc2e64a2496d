-- The lengths are read, then the bytes that they sum to, and then these are looked at.
use Rattle.std.proofs.Common.{◌≡◌, ℕ, None, ◌<◌, List, [], length, All, refl, sym, subst, ◌∙◌}
use Rattle.std.specs.Prelude.{IsUtf8}
use Rattle.bitcode_memory.specs.Fast.{slice_rest}
use Rattle.bitcode_columns.specs.Reading.{Reads}
use Rattle.bitcode_coder.specs.Cutting.{cut}
use Rattle.bitcode_coder.specs.LengthColumn.{SpellsLengths}
use Rattle.std.proofs.lemmas.Result.{err_from_is_err_and}
use Rattle.std.proofs.lemmas.Str.Ascii.{IsAscii-nil}
use Rattle.bitcode_columns.proofs.ReadingLemmas.{OnErr-always}
use Rattle.bitcode_coder.specs.Length.{lengths_left}
use Rattle.bitcode_coder.specs.TextParts.{in_lengths, missing_bytes, not_texts}
use Rattle.bitcode_coder.proofs.JoinedTextLemmas.{ascii_pieces}
use Rattle.bitcode_coder.proofs.LengthPartLemmas.{ends_behind_read}
use Rattle.bitcode_coder.proofs.StrLemmas.{texts_read}
use Rattle.bitcode_coder.proofs.StrictColumnLemmas.{texts_judged}
use Rattle.bitcode_coder.proofs.str.decoder.StrDecoder.read_column.Goals as goal

pub returns-in_err-written-clause-refused : goal.returns-in_err-written-clause-refused
returns-in_err-written-clause-refused c =
    let refused = err_from_is_err_and c.from_residual.result c.from_residual.ensures.1 in
    rw (refused.1, refused.2) (in_lengths c.in_err-written.ensures.refused)

pub returns-in_err-bytes-clause-refused : goal.returns-in_err-bytes-clause-refused
returns-in_err-bytes-clause-refused c =
    let refused = err_from_is_err_and c.from_residual-in_err-bytes.result c.from_residual-in_err-bytes.ensures.1 in
    let all = c.length.ensures ∙ c.in_ok-written.ensures.sum in
    rw (refused.1, refused.2)
    (missing_bytes (lengths_left c.read.new.self) c.read.new.input.now c.in_err-bytes.ensures.reason c.in_ok-written.ensures.read
    (subst (λ n. length c.read.new.input.now < n) all (c.in_err-bytes.ensures.refused.0 refl)))

pub returns-then-not-are_texts-clause-refused : goal.returns-then-not-are_texts-clause-refused
returns-then-not-are_texts-clause-refused c =
    let ns = lengths_left c.read.new.self in
    let all = c.length.ensures ∙ c.in_ok-written.ensures.sum in
    let bytes = c.in_ok-bytes.bytes.now in
    rw c.err.ensures
    (not_texts ns bytes c.consume_bytes.new.input.now refl
    (subst (λ input. Reads (SpellsLengths None) c.args.k c.args.input.now.now ns input) c.in_ok-bytes.ensures.whole c.in_ok-written.ensures.read)
    (c.in_ok-bytes.ensures.size ∙ all) c.if-not-are_texts.ensures)

pub returns-then-not-are_texts-clause-rest : goal.returns-then-not-are_texts-clause-rest
returns-then-not-are_texts-clause-rest c =
    OnErr-always c.err.result
    (ends_behind_read c.consume_bytes.new.input.now c.in_ok-written.ensures.read
    (record { taken = c.in_ok-bytes.bytes.now; whole = c.in_ok-bytes.ensures.whole }))

-- no pieces of no bytes are broken
nothing_broken : (ns bytes : List ℕ) → bytes ≡ [] → All IsUtf8 (cut ns bytes)
nothing_broken ns bytes none = subst (λ bs. All IsUtf8 (cut ns bs)) (sym none) (ascii_pieces ns [] IsAscii-nil)

pub invariant_of-self : goal.invariant_of-self
invariant_of-self c = record { utf8 = nothing_broken (lengths_left c.read.new.self) (slice_rest c.from-self.result) c.from-self.ensures }

pub invariant_of-self-in-Break-branch-2 : goal.invariant_of-self-in-Break-branch-2
invariant_of-self-in-Break-branch-2 c = record { utf8 = nothing_broken (lengths_left c.read.new.self) (slice_rest c.from-self.result) c.from-self.ensures }

pub invariant_of-self-then-not-are_texts : goal.invariant_of-self-then-not-are_texts
invariant_of-self-then-not-are_texts c = record { utf8 = nothing_broken (lengths_left c.read.new.self) (slice_rest c.from-self.result) c.from-self.ensures }

pub invariant_of-self-2 : goal.invariant_of-self-2
invariant_of-self-2 c = record {
  utf8 = subst (λ bytes. All IsUtf8 (cut (lengths_left c.read.new.self) bytes)) (sym c.from-self-2.ensures) c.if-not-are_texts.ensures;
}

pub returns-clause-read : goal.returns-clause-read
returns-clause-read c =
    let ns = lengths_left c.read.new.self in
    let bytes = c.in_ok-bytes.bytes.now in
    let all = c.length.ensures ∙ c.in_ok-written.ensures.sum in
    rw c.from-self-2.ensures
    (texts_read bytes
    (subst (λ input. Reads (SpellsLengths None) c.args.k c.args.input.now.now ns input) c.in_ok-bytes.ensures.whole c.in_ok-written.ensures.read)
    (c.in_ok-bytes.ensures.size ∙ all) c.if-not-are_texts.ensures)

pub returns-clause-judged : goal.returns-clause-judged
returns-clause-judged c strict =
    let ns = lengths_left c.read.new.self in
    let bytes = c.in_ok-bytes.bytes.now in
    let all = c.length.ensures ∙ c.in_ok-written.ensures.sum in
    rw c.from-self-2.ensures
    (texts_judged _ c.args.k c.args.input.now.now ns bytes c.consume_bytes.new.input.now (c.in_ok-bytes.ensures.size ∙ all) (rw c.from-self-2.ensures at (returns-clause-read c))
    (rw c.in_ok-bytes.ensures.whole at (c.in_ok-written.ensures.judged strict)))
