-- The large lengths follow the short bytes.
use Rattle.std.proofs.Common.{◌≡◌, ◌<◌, ◌≤◌, All, length, map, ap, subst, ◌∙◌}
use Rattle.bitcode_coder.specs.LengthColumn.{escape}
use Rattle.bitcode_memory.specs.Fast.{cow_rest}
use Rattle.bitcode_memory.specs.LittleEndian.{little_endian}
use Rattle.bitcode_coder.proofs.StrictColumnLemmas.{mapped_told, lengths_judged}
use Rattle.std.proofs.lemmas.Result.{err_from_is_err_and}
use Rattle.bitcode_columns.proofs.ReadingLemmas.{OnErr-always}
use Rattle.bitcode_coder.specs.LengthParts.{escapes, in_short}
use Rattle.bitcode_coder.proofs.LengthPartLemmas.{ends_behind_read, fault_of_large}
use Rattle.bitcode_coder.proofs.length.decoder.read_parts.Goals as goal

pub returns-in_err-small_written-clause-refused : goal.returns-in_err-small_written-clause-refused
returns-in_err-small_written-clause-refused c =
    let refused = err_from_is_err_and c.from_residual.result c.from_residual.ensures.1 in
    rw (refused.1, refused.2) (in_short (record { named = c.in_err-small_written.ensures.refused; free = c.in_err-small_written.ensures.raw }))

pub returns-in_err-large_written-clause-refused : goal.returns-in_err-large_written-clause-refused
returns-in_err-large_written-clause-refused c =
    let refused = err_from_is_err_and c.from_residual-in_err-large_written.result c.from_residual-in_err-large_written.ensures.1 in
    rw (refused.1, refused.2) (fault_of_large _ c.count_escapes-count.result c.in_ok-small_written.ensures.read (c.count_escapes-count.ensures ∙ ap escapes c.as_slice-shorts.ensures)
    c.in_err-large_written.ensures.refused)

pub returns-in_err-large_written-clause-rest : goal.returns-in_err-large_written-clause-rest
returns-in_err-large_written-clause-rest c =
    OnErr-always c.from_residual-in_err-large_written.result (ends_behind_read _ c.in_ok-small_written.ensures.read c.in_err-large_written.ensures.rest)

pub returns-clause-judged : goal.returns-clause-judged
returns-clause-judged c strict =
    let small = cow_rest c.read_bytes.new.out in
    let arrays = cow_rest c.read_large.new.large in
    let large = map little_endian arrays in
    let below : All (λ b. b < 256) small = subst (All (λ b. b < 256)) c.as_slice-shorts.ensures c.known_bytes.ensures in
    let count : length large ≡ escapes small
    = c.in_ok-large_written.ensures.read.size ∙ c.count_escapes-count.ensures ∙ ap escapes c.as_slice-shorts.ensures in
    let enough = mapped_told (λ n. escape ≤ n) little_endian arrays c.are_large-enough.result (rw c.as_slice.ensures at c.are_large-enough.ensures) in
    rw (c.both-2.ensures, c.both.ensures)
    (lengths_judged c.in_ok-small_written.small_written c.in_ok-large_written.large_written c.are_large-enough.result c.args.k c.args.input.now.now
    c.read_bytes.new.input.now c.read_large.new.input.now small large c.in_ok-small_written.ensures.read below count
    (c.in_ok-small_written.ensures.judged strict) (c.in_ok-large_written.ensures.judged strict) enough)
