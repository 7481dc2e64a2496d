-- The register is put over the first four bytes, and each byte is then shifted out.
use Rattle.std.proofs.Common.{◌≡◌, ℕ, ◌<◌, ◌^◌, [], ◌∷◌, length, get_or, ap, sym, subst, ◌∙◌, arith}
use Rattle.std.specs.Prelude.{bit_xor, slice_index}
use Rattle.std.proofs.lemmas.List.Elements.{All-from_get_or}
use Rattle.bitcode_memory.specs.LittleEndian.{little_endian, number_bytes}
use Rattle.bitcode_sealed.specs.Crc.{register_after}
use Rattle.bitcode_sealed.proofs.CrcLemmas.{AreBytes}
use Rattle.bitcode_sealed.proofs.CrcStepLemmas.{eight_bytes, eight_at_once}
use Rattle.bitcode_sealed.proofs.ValueLemmas.{pos_same}
use Rattle.bitcode_sealed.proofs.crc.eight_steps.Goals as goal

pub returns : goal.returns
returns c =
    let bytes = c.args.bytes.now in
    let register = c.args.register in
    let size : length bytes ≡ 8 = c.told-bytes in
    let fits : (i : ℕ) → get_or bytes i 0 < 256 = c.fits-bytes in
    let all : AreBytes bytes = All-from_get_or (λ b. b < 256) bytes 0 (λ i _. fits i) in
    let is = eight_bytes bytes size in
    let first = slice_index bytes 0 ∷ slice_index bytes 1 ∷ slice_index bytes 2 ∷ slice_index bytes 3 ∷ [] in
    let read : c.from_unaligned.result ≡ little_endian first = pos_same c.from_unaligned.result (little_endian first) c.from_unaligned.ensures in
    let over : c.to_unaligned.result ≡ number_bytes 4 (bit_xor register (little_endian first)) =
    c.to_unaligned.ensures ∙ ap (λ r. number_bytes 4 (bit_xor register r)) read in
    let small : register < 2 ^ 32 = omega arith in
    rw (c.shifted_64.ensures, c.shifted_56.ensures, c.shifted_48.ensures, c.shifted_40.ensures, c.shifted_32.ensures, c.shifted_24.ensures, c.shifted_16.ensures, c.shifted_8.ensures)
    (eight_at_once register (slice_index bytes 0) (slice_index bytes 1) (slice_index bytes 2) (slice_index bytes 3) (slice_index bytes 4) (slice_index bytes 5)
    (slice_index bytes 6) (slice_index bytes 7) c.to_unaligned.result small (subst AreBytes is all) over ∙ ap (register_after register) (sym is))
