-- The bytes of a number, the lowest first.
use Rattle.std.proofs.Common.{◌≡◌, ℕ, zero, suc, ◌+◌, ◌*◌, ◌/◌, ◌%◌, ◌^◌, ◌<◌, List, [], ◌∷◌, length, All, refl, ap, arith, pow-suc}
use Rattle.std.proofs.lemmas.List.Elements.{All-head, All-tail}
use Rattle.bitcode_memory.specs.LittleEndian.{little_endian, number_bytes}

pub length-number_bytes : (width n : ℕ) → length (number_bytes width n) ≡ width
length-number_bytes zero n = refl
length-number_bytes (suc width) n = ap suc (length-number_bytes width (n / 256))

pub little_endian-number_bytes : (width n : ℕ) → n < 256 ^ width → little_endian (number_bytes width n) ≡ n
little_endian-number_bytes zero n h = omega arith
little_endian-number_bytes (suc width) n h =
    let below : n / 256 < 256 ^ width = omega (arith, pow-suc 256 width) in
    omega (arith, little_endian-number_bytes width (n / 256) below)

pub number_bytes-little_endian : (bytes : List ℕ) → All (λ b. b < 256) bytes → number_bytes (length bytes) (little_endian bytes) ≡ bytes
number_bytes-little_endian [] h = refl
number_bytes-little_endian (byte ∷ bytes) h =
    let first : byte < 256 = All-head (λ b. b < 256) byte bytes h in
    let low : (byte + 256 * little_endian bytes) % 256 ≡ byte = omega arith in
    let high : (byte + 256 * little_endian bytes) / 256 ≡ little_endian bytes = omega arith in
    let rest : number_bytes (length bytes) (little_endian bytes) ≡ bytes = number_bytes-little_endian bytes (All-tail (λ b. b < 256) byte bytes h) in
    rw (low, high, rest)

pub little_endian_below : (bytes : List ℕ) → All (λ b. b < 256) bytes → little_endian bytes < 256 ^ length bytes
little_endian_below [] h = omega arith
little_endian_below (byte ∷ bytes) h =
    let first : byte < 256 = All-head (λ b. b < 256) byte bytes h in
    let rest : little_endian bytes < 256 ^ length bytes = little_endian_below bytes (All-tail (λ b. b < 256) byte bytes h) in
    omega (arith, pow-suc 256 (length bytes))
