use Rattle.std.proofs.Common.{◌≡◌, ◌-◌, ◌*◌, ◌<◌, ◌≤◌, ◌⊎◌, inl, inr, ◌∷◌, length, map, arith}
use Rattle.std.proofs.lemmas.List.{length-map}
use Rattle.bitcode_columns.specs.ByteColumn.{level_of_base, byte_text}
use Rattle.bitcode_columns.specs.Digits.{digits_text}
use Rattle.bitcode_memory.specs.Ints.{residue}
use Rattle.bitcode_columns.proofs.BytePackingLemmas.{least_le_greatest, above_least, plain_is, shifted_is, plain_digits, shifted_digits, text-bare, text-plain, text-shifted}
use Rattle.bitcode_columns.proofs.pack.bytes.pack_bytes.Goals as goal
use Rattle.bitcode_columns.proofs.pack.bytes.pack_bytes.Given.{Over}
use Rattle.bitcode_columns.proofs.pack.bytes.pack_bytes.Goals.{After-pack_digits, After-pack_digits-else-bytes-gt-MOST_UNSHIFTED}
use Rattle.bitcode_columns.proofs.pack.bytes.pack_bytes.Goals.{else-bytes-gt-MOST_UNSHIFTED-via-then-bytes-gt-MOST_UNSHIFTED+else-level, else-bytes-gt-MOST_UNSHIFTED-via-else-bytes-gt-MOST_UNSHIFTED}

pub returns-then-bytes-le-MOST_WITHOUT_TAG-clause-written : goal.returns-then-bytes-le-MOST_WITHOUT_TAG-clause-written
returns-then-bytes-le-MOST_WITHOUT_TAG-clause-written g c =
    rw (text-bare g.T.Int.number c.args.bytes.now c.if-bytes-le-MOST_WITHOUT_TAG.true) c.pack_untagged.ensures.written

pub returns-then-bytes-le-MOST_WITHOUT_TAG-clause-full : goal.returns-then-bytes-le-MOST_WITHOUT_TAG-clause-full
returns-then-bytes-le-MOST_WITHOUT_TAG-clause-full g c =
    let size = length-map c.args.bytes.now (λ entry. residue 1 (g.T.Int.number entry)) in
    rw (text-bare g.T.Int.number c.args.bytes.now c.if-bytes-le-MOST_WITHOUT_TAG.true, size) c.pack_untagged.ensures.full

pub plain_base-plain-requires : goal.plain_base-plain-requires
plain_base-plain-requires g c =
    let low = c.minmax-least.ensures.least (omega arith) in
    let high = c.minmax-least.ensures.greatest (omega arith) in
    rw (low, high) (least_le_greatest g.T.Int.number c.args.bytes.now (omega arith))

pub shifted_base-shifted-requires : goal.shifted_base-shifted-requires
shifted_base-shifted-requires g c =
    let low = c.minmax-least.ensures.least (omega arith) in
    let high = c.minmax-least.ensures.greatest (omega arith) in
    rw (low, high) (least_le_greatest g.T.Int.number c.args.bytes.now (omega arith))

pub subtract_from_each-requires : goal.subtract_from_each-requires
subtract_from_each-requires g c =
    above_least g.T.Int.number c.args.bytes.now (g.T.Int.number c.minmax-least.result.0) (c.minmax-least.ensures.least (omega arith))

pub pack_digits-requires : goal.pack_digits-requires
pack_digits-requires g c =
    let low = c.minmax-least.ensures.least (omega arith) in
    let high = c.minmax-least.ensures.greatest (omega arith) in
    let shifted = shifted_is _ _ _ _ c.shifted_base-shifted.result low high c.shifted_base-shifted.ensures in
    shifted_digits g.T.Int.number c.args.bytes.now c.shifted_base-shifted.result (g.T.Int.number c.minmax-least.result.0) c.subtract_from_each.new.bytes
    low shifted c.subtract_from_each.ensures

pub pack_digits-requires-else-bytes-gt-MOST_UNSHIFTED : goal.pack_digits-requires-else-bytes-gt-MOST_UNSHIFTED
pack_digits-requires-else-bytes-gt-MOST_UNSHIFTED g c =
    let low = c.minmax-least.ensures.least (omega arith) in
    let high = c.minmax-least.ensures.greatest (omega arith) in
    plain_digits g.T.Int.number c.args.bytes.now c.plain_base-plain.result (plain_is _ _ _ _ c.plain_base-plain.result low high c.plain_base-plain.ensures)

shifted : (g : Over) (c : After-pack_digits g)
    → byte_text (map g.T.Int.number c.args.bytes.now)
    ≡ (2 * c.level-then-level.result - 1) ∷ (c.to_byte.result ∷ digits_text c.shifted_base-shifted.result (map (λ entry. residue 1 (g.T.Int.number entry)) c.subtract_from_each.new.bytes))
shifted g c =
    let low = c.minmax-least.ensures.least (omega arith) in
    let high = c.minmax-least.ensures.greatest (omega arith) in
    let plain_base = plain_is _ _ _ _ c.plain_base-plain.result low high c.plain_base-plain.ensures in
    let shifted_base = shifted_is _ _ _ _ c.shifted_base-shifted.result low high c.shifted_base-shifted.ensures in
    let smaller : level_of_base c.plain_base-plain.result < level_of_base c.shifted_base-shifted.result = omega arith in
    let tag : 2 * c.level-then-level.result - 1 ≡ 2 * level_of_base c.shifted_base-shifted.result - 1 = omega arith in
    text-shifted g.T.Int.number c.args.bytes.now c.plain_base-plain.result c.shifted_base-shifted.result (g.T.Int.number c.minmax-least.result.0) _ c.to_byte.result _
    (omega arith) plain_base shifted_base smaller tag low c.to_byte.ensures.value (omega arith) c.subtract_from_each.ensures

plain : (g : Over) (c : After-pack_digits-else-bytes-gt-MOST_UNSHIFTED g)
    → byte_text (map g.T.Int.number c.args.bytes.now)
    ≡ (2 * c.level-else-bytes-gt-MOST_UNSHIFTED.result) ∷ digits_text c.plain_base-plain.result (map (λ entry. residue 1 (g.T.Int.number entry)) c.args.bytes.now)
plain g c =
    let low = c.minmax-least.ensures.least (omega arith) in
    let high = c.minmax-least.ensures.greatest (omega arith) in
    let plain_base = plain_is _ _ _ _ c.plain_base-plain.result low high c.plain_base-plain.ensures in
    let shifted_base = shifted_is _ _ _ _ c.shifted_base-shifted.result low high c.shifted_base-shifted.ensures in
    let not : (length c.args.bytes.now ≤ 5) ⊎ (level_of_base c.shifted_base-shifted.result ≤ level_of_base c.plain_base-plain.result)
    = elim c.else-bytes-gt-MOST_UNSHIFTED.branch [
      | else-bytes-gt-MOST_UNSHIFTED-via-then-bytes-gt-MOST_UNSHIFTED+else-level w ↦ inr (omega arith)
      | else-bytes-gt-MOST_UNSHIFTED-via-else-bytes-gt-MOST_UNSHIFTED w ↦ inl (omega arith)
    ] in
    let tag : 2 * c.level-else-bytes-gt-MOST_UNSHIFTED.result ≡ 2 * level_of_base c.plain_base-plain.result = omega arith in
    text-plain g.T.Int.number c.args.bytes.now c.plain_base-plain.result c.shifted_base-shifted.result _ (omega arith) plain_base shifted_base not tag

pub returns-then-level-clause-written : goal.returns-then-level-clause-written
returns-then-level-clause-written g c = rw (shifted g c) c.pack_digits.ensures.written

pub returns-then-level-clause-full : goal.returns-then-level-clause-full
returns-then-level-clause-full g c = rw (shifted g c) c.pack_digits.ensures.full

pub returns-else-bytes-gt-MOST_UNSHIFTED-clause-written : goal.returns-else-bytes-gt-MOST_UNSHIFTED-clause-written
returns-else-bytes-gt-MOST_UNSHIFTED-clause-written g c = rw (plain g c) c.pack_digits-else-bytes-gt-MOST_UNSHIFTED.ensures.written

pub returns-else-bytes-gt-MOST_UNSHIFTED-clause-full : goal.returns-else-bytes-gt-MOST_UNSHIFTED-clause-full
returns-else-bytes-gt-MOST_UNSHIFTED-clause-full g c = rw (plain g c) c.pack_digits-else-bytes-gt-MOST_UNSHIFTED.ensures.full
