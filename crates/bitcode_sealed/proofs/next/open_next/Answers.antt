-- The front is refused for want of memory, or skipped.
use Rattle.std.proofs.Common.{drop, ap, subst, ◌∙◌}
use Rattle.std.proofs.lemmas.List.{take_rest}
use Rattle.bitcode_sealed.specs.declared.error.OpenError.{OpenError}
use Rattle.bitcode_sealed.specs.Front.{IsSkipped}
use Rattle.bitcode_sealed.specs.Opening.{IsRefusalOfFront}
use Rattle.bitcode_sealed.proofs.ErrorLemmas.{of_memory}
use Rattle.bitcode_sealed.proofs.next.open_next.Goals as goal

pub returns-then-is_out_of_memory-clause-refused : goal.returns-then-is_out_of_memory-clause-refused
returns-then-is_out_of_memory-clause-refused g c =
    let Refused : OpenError → Type 0 =
    λ e. IsRefusalOfFront g.T.Decoder.Decoder.makes_free g.T.Decoder.HoldsData.shape g.T.Shaped.data.shape c.args.expected.now c.args.input.now.now e in
    rw c.err.ensures (subst Refused (of_memory c.in-Err.fault (c.is_out_of_memory.ensures.0 c.if-is_out_of_memory.true)) c.in-Err.ensures.refused)

pub returns-in-Ok-bytes_to_skip-clause-found : goal.returns-in-Ok-bytes_to_skip-clause-found
returns-in-Ok-bytes_to_skip-clause-found g c =
    let bytes = c.in-Ok-bytes_to_skip.bytes in
    let same = c.in-Err.ensures.unchanged in
    record {
      refused = c.in-Err.ensures.refused;
      not_memory = λ memory. let yes = c.is_out_of_memory.ensures.1 memory in cc;
      skipped = subst (λ input. IsSkipped c.args.expected.now input bytes) same c.in-Ok-bytes_to_skip.ensures;
      left = take_rest c.open_front.new.input.now bytes ∙ ap (drop bytes) same;
    }
