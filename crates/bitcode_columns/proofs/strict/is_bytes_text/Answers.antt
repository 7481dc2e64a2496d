use Rattle.std.proofs.Common.{◌⊎◌, inl, inr, ◌<◌, ◌≤◌, length, refl, sym, ap, ◌∙◌, arith}
use Rattle.bitcode_columns.specs.ByteColumn.{level_of_base}
use Rattle.bitcode_memory.specs.Ints.{residue}
use Rattle.bitcode_columns.proofs.BytePackingLemmas.{plain_is, shifted_is}
use Rattle.bitcode_columns.proofs.StrictLemmas.{bare_judged, plain_answer, shifted_answer}
use Rattle.bitcode_columns.proofs.strict.is_bytes_text.Goals as goal
use Rattle.bitcode_columns.proofs.strict.is_bytes_text.Goals.{else-count-gt-MOST_UNSHIFTED-via-then-count-gt-MOST_UNSHIFTED+else-level, else-count-gt-MOST_UNSHIFTED-via-else-count-gt-MOST_UNSHIFTED}

pub returns-then-count-le-MOST_WITHOUT_TAG : goal.returns-then-count-le-MOST_WITHOUT_TAG
returns-then-count-le-MOST_WITHOUT_TAG g c entries size numbers low high spelled =
    (λ told. bare_judged entries c.args.packed.now (omega arith) spelled, λ same. refl)

pub returns-then-level : goal.returns-then-level
returns-then-level g c entries size numbers low high spelled =
    let plain = plain_is _ _ _ _ c.plain_base-plain.result (sym low) (sym high) c.plain_base-plain.ensures in
    let shifted = shifted_is _ _ _ _ c.shifted_base-shifted.result (sym low) (sym high) c.shifted_base-shifted.ensures in
    let smaller : level_of_base c.plain_base-plain.result < level_of_base c.shifted_base-shifted.result = omega arith in
    shifted_answer g.T.Int.signed entries c.args.packed.now c.args.count size numbers spelled c.stand_shifted.result c.plain_base-plain.result c.shifted_base-shifted.result
    (omega arith) plain shifted c.to_byte.result (c.to_byte.ensures.value ∙ ap (residue 1) (sym low)) (omega arith) smaller c.stand_shifted.ensures

pub returns-else-count-gt-MOST_UNSHIFTED : goal.returns-else-count-gt-MOST_UNSHIFTED
returns-else-count-gt-MOST_UNSHIFTED g c entries size numbers low high spelled =
    let plain = plain_is _ _ _ _ c.plain_base-plain.result (sym low) (sym high) c.plain_base-plain.ensures in
    let shifted = shifted_is _ _ _ _ c.shifted_base-shifted.result (sym low) (sym high) c.shifted_base-shifted.ensures in
    let not : (length entries ≤ 5) ⊎ (level_of_base c.shifted_base-shifted.result ≤ level_of_base c.plain_base-plain.result)
    = elim c.else-count-gt-MOST_UNSHIFTED.branch [
      | else-count-gt-MOST_UNSHIFTED-via-then-count-gt-MOST_UNSHIFTED+else-level w ↦ inr (omega arith)
      | else-count-gt-MOST_UNSHIFTED-via-else-count-gt-MOST_UNSHIFTED w ↦ inl (omega arith)
    ] in
    plain_answer g.T.Int.signed entries c.args.packed.now c.args.count size numbers spelled c.stand_plain.result c.plain_base-plain.result c.shifted_base-shifted.result
    (omega arith) plain shifted not c.stand_plain.ensures
