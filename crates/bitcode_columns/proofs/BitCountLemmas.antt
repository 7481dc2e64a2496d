-- The bits of packed bytes, counted many at a time.
use Rattle.std.proofs.Common.{◌≡◌, ℕ, zero, suc, ◌+◌, ◌-◌, ◌*◌, ◌/◌, ◌%◌, ◌<◌, ◌≤◌, List, [], ◌∷◌, ◌++◌, length, map, replicate, take, drop, get_or, set, All, nat_eq, refl, sym, ap, ◌∙◌, arith}
use Rattle.std.specs.Prelude.{count_ones}
use Rattle.std.specs.List.{range_with_len}
use Rattle.std.specs.Simd.{first_chunks}
use Rattle.std.specs.Int.Count.{ones_step}
use Rattle.std.specs.Cmp.Lexicographic.{same_text}
use Rattle.std.proofs.Math.Seq.{take-add, take-suc}
use Rattle.std.proofs.lemmas.List.{take-append-drop}
use Rattle.std.proofs.lemmas.List.Elements.{All-head, All-tail}
use Rattle.std.proofs.lemmas.Nat.{ones_le_self}
use Rattle.std.proofs.lemmas.List.Sums.{sum_by-cons, sum_by-append, sum_by_push}
use lib.Pointwise.{pointwise}
use lib.Ieee.Bits.{is_true}
use Rattle.bitcode_columns.specs.declared.pack.Base.TheVariants.{Two}
use Rattle.bitcode_columns.specs.Digits.{digit}
use Rattle.bitcode_columns.specs.DigitCounts.{digits_of, digits_counted}
use Rattle.bitcode_columns.specs.Histogram.{count_of}
use Rattle.bitcode_memory.specs.LittleEndian.{little_endian}
use Rattle.bitcode_columns.proofs.BitLemmas.{holds_below}
use Rattle.bitcode_columns.proofs.TableLemmas.{get_or-first_chunks}

-- ---- the bits of one byte

-- the bits of a byte that are 0, and those that are 1
abbrev zeros : ℕ → ℕ
zeros byte = count_of 0 (map (digit 2 byte) (range_with_len 0 8))

abbrev ones : ℕ → ℕ
ones byte = count_of 1 (map (digit 2 byte) (range_with_len 0 8))

-- of each byte so many bits are 1, and all eight are 0 or 1
bits_of_byte : (byte : ℕ) → byte < 256 → (count_ones byte ∷ (zeros byte + ones byte) ∷ []) ≡ (ones byte ∷ 8 ∷ [])
unfolding lib.Count.ones
bits_of_byte byte h =
    same_text (count_ones byte ∷ (zeros byte + ones byte) ∷ []) (ones byte ∷ 8 ∷ [])
    (sym (is_true _ (holds_below (λ b. pointwise nat_eq (count_ones b ∷ (zeros b + ones b) ∷ []) (ones b ∷ 8 ∷ [])) 256 byte tt h)))

byte_ones : (byte : ℕ) → byte < 256 → count_ones byte ≡ count_of 1 (digits_of Two byte)
unfolding digits_of
byte_ones byte h = ap (λ xs. get_or xs 0 0) (bits_of_byte byte h)

byte_bits : (byte : ℕ) → byte < 256 → count_of 0 (digits_of Two byte) + count_of 1 (digits_of Two byte) ≡ 8
unfolding digits_of
byte_bits byte h = ap (λ xs. get_or xs 1 0) (bits_of_byte byte h)

-- ---- the bits of several

abbrev doubled : ℕ → ℕ → ℕ
doubled zero n = n
doubled (suc k) n = 2 * doubled k n

ones-join : (k low high : ℕ) → low < doubled k 1 → count_ones (low + doubled k high) ≡ count_ones low + count_ones high
ones-join zero low high h =
    let none : low ≡ 0 = omega arith in
    rw none (omega (arith, ones_le_self 0, ap count_ones {x = 0 + high} {y = high} (omega arith)))
ones-join (suc k) low high h =
    let first : (low + 2 * doubled k high) % 2 ≡ low % 2 = omega arith in
    let later : (low + 2 * doubled k high) / 2 ≡ low / 2 + doubled k high = omega arith in
    omega (
      arith,
      ones_step (low + 2 * doubled k high),
      ones_step low,
      first,
      ap count_ones later,
      ones-join k (low / 2) high (omega arith),
    )

pub ones_counted : (bytes : List ℕ) → All (λ byte. byte < 256) bytes → count_ones (little_endian bytes) ≡ digits_counted Two 1 bytes
unfolding digits_counted
ones_counted [] h = let none : count_ones 0 ≡ 0 = omega (arith, ones_le_self 0) in none
ones_counted (byte ∷ bytes) h =
    let small : byte < 256 = All-head (λ b. b < 256) byte bytes h in
    omega (
      arith,
      ones-join 8 byte (little_endian bytes) small,
      ap count_ones {x = byte + doubled 8 (little_endian bytes)} {y = byte + 256 * little_endian bytes} (omega arith),
      byte_ones byte small,
      ones_counted bytes (All-tail (λ b. b < 256) byte bytes h),
      sum_by-cons (λ b. count_of 1 (digits_of Two b)) byte bytes,
    )

counted-append : (xs ys : List ℕ) → digits_counted Two 1 (xs ++ ys) ≡ digits_counted Two 1 xs + digits_counted Two 1 ys
unfolding digits_counted
counted-append xs ys = sum_by-append (λ b. count_of 1 (digits_of Two b)) xs ys

pub bits_counted : (bytes : List ℕ) → All (λ byte. byte < 256) bytes → digits_counted Two 0 bytes + digits_counted Two 1 bytes ≡ 8 * length bytes
unfolding digits_counted
bits_counted [] h = refl
bits_counted (byte ∷ bytes) h =
    omega (
      arith,
      byte_bits byte (All-head (λ b. b < 256) byte bytes h),
      bits_counted bytes (All-tail (λ b. b < 256) byte bytes h),
      sum_by-cons (λ b. count_of 0 (digits_of Two b)) byte bytes,
      sum_by-cons (λ b. count_of 1 (digits_of Two b)) byte bytes,
    )

pub ones_in_front : (n : ℕ) (bytes : List ℕ) → All (λ byte. byte < 256) bytes → digits_counted Two 1 (take n bytes) ≤ 8 * length bytes
ones_in_front n bytes h =
    omega (arith, bits_counted bytes h, counted-append (take n bytes) (drop n bytes), ap (digits_counted Two 1) (take-append-drop n bytes))

-- the byte behind those that are counted is counted
pub one_byte_more : (i : ℕ) (bytes : List ℕ) → i < length bytes → get_or bytes i 0 < 256
    → digits_counted Two 1 (take (i + 1) bytes) ≡ digits_counted Two 1 (take i bytes) + count_ones (get_or bytes i 0)
unfolding digits_counted
one_byte_more i bytes inside small =
    ap (λ n. digits_counted Two 1 (take n bytes)) {x = i + 1} {y = suc i} (omega arith)
    ∙ ap (digits_counted Two 1) (take-suc bytes i 0 inside)
    ∙ sum_by_push (λ b. count_of 1 (digits_of Two b)) (take i bytes) (get_or bytes i 0)
    ∙ ap (λ n. digits_counted Two 1 (take i bytes) + n) (sym (byte_ones (get_or bytes i 0) small))

-- the block behind those that are counted is counted
pub one_block_more : (size blocks i : ℕ) (bytes block : List ℕ) → i < blocks → block ≡ get_or (first_chunks size blocks bytes) i []
    → digits_counted Two 1 (take ((i + 1) * size) bytes) ≡ digits_counted Two 1 (take (i * size) bytes) + digits_counted Two 1 block
one_block_more size blocks i bytes block h at =
    let e : (i + 1) * size ≡ i * size + size = omega arith in
    let b : block ≡ take size (drop (i * size) bytes) = at ∙ get_or-first_chunks size blocks i bytes [] h in
    ap (λ n. digits_counted Two 1 (take n bytes)) e ∙ ap (digits_counted Two 1) (take-add (i * size) size bytes)
    ∙ counted-append (take (i * size) bytes) (take size (drop (i * size) bytes))
    ∙ ap (λ xs. digits_counted Two 1 (take (i * size) bytes) + digits_counted Two 1 xs) (sym b)

-- the blocks and what is behind them are all
pub blocks_and_rest : (size blocks : ℕ) (bytes rest : List ℕ) → rest ≡ drop (blocks * size) bytes
    → digits_counted Two 1 rest + digits_counted Two 1 (take (blocks * size) bytes) ≡ digits_counted Two 1 bytes
blocks_and_rest size blocks bytes rest behind =
    omega (
      arith,
      ap (digits_counted Two 1) behind,
      counted-append (take (blocks * size) bytes) (drop (blocks * size) bytes),
      ap (digits_counted Two 1) (take-append-drop (blocks * size) bytes),
    )

-- ---- both counts

pub two_counts : (n : ℕ) (packed : List ℕ) (ones : ℕ) → n ≡ 2 → All (λ byte. byte < 256) packed → ones ≡ digits_counted Two 1 packed → (value : ℕ) → value < n
    → get_or (set (set (replicate n 0) 0 (8 * length packed - ones)) 1 ones) value 0 ≡ digits_counted Two value packed
two_counts n packed ones is h are zero below =
    let others : 8 * length packed - ones ≡ digits_counted Two 0 packed = omega (arith, are, bits_counted packed h) in
    rw is others
two_counts n packed ones is h are (suc zero) below = rw is are
two_counts n packed ones is h are (suc (suc value)) below = absurd (omega arith)
