-- The bytes of integers, as std and as the columns say them.
use Rattle.std.proofs.Common.{◌≡◌, ℕ, zero, suc, ◌+◌, ◌*◌, ◌/◌, ◌%◌, ◌^◌, ◌<◌, ◌≤◌, List, ◌++◌, length, map, take, drop, All, refl, sym, ap, ◌∙◌, subst, arith}
use Rattle.std.specs.Int.{w128, byte_at, bytes_low_first, to_le_bytes}
use Rattle.std.specs.Simd.{first_chunks}
use Rattle.std.proofs.Math.Nat.{div-div-eq-div-mul, div-one, pow-suc, suc-mul, zero-mul}
use Rattle.std.proofs.Math.Seq.{take-add}
use Rattle.std.proofs.lemmas.List.{length-take, length-drop}
use Rattle.std.proofs.lemmas.List.Elements.{All-take, All-drop, All-cons, All-nil}
use Rattle.bitcode_memory.specs.LittleEndian.{little_endian, number_bytes, raw_text, SpellsRaw}
use Rattle.bitcode_memory.proofs.LittleEndianLemmas.{number_bytes-little_endian, little_endian_below}

byte_of : (i n m : ℕ) → m ≡ n / 256 ^ i → byte_at i n ≡ m % 256
byte_of zero n m e = ap (λ a. a % 256) (sym (e ∙ div-one n))
byte_of (suc i) n m e = ap (λ a. a % 256) (sym e)

low_first : (i k n m : ℕ) → m ≡ n / 256 ^ i → bytes_low_first i k n ≡ number_bytes k m
low_first i zero n m e = refl
low_first i (suc k) n m e =
    let next : m / 256 ≡ n / 256 ^ suc i = rw e (div-div-eq-div-mul n (256 ^ i) 256 ∙ ap (λ a. n / a) (sym (pow-suc 256 i))) in
    rw (byte_of i n m e, low_first (suc i) k n (m / 256) next)

pub to_le_bytes_128 : (n : ℕ) → to_le_bytes w128 n ≡ number_bytes 16 n
to_le_bytes_128 n = low_first 0 16 n n (sym (div-one n))

first_chunk : (width count : ℕ) (bytes : List ℕ) → suc count * width ≤ length bytes → length (take width bytes) ≡ width
first_chunk width count bytes fits = omega (arith, length-take width bytes, suc-mul count width)

raw_chunks : (width count : ℕ) (bytes : List ℕ) → All (λ b. b < 256) bytes → count * width ≤ length bytes
    → raw_text width (map little_endian (first_chunks width count bytes)) ≡ take (count * width) bytes
unfolding raw_text
raw_chunks width zero bytes h fits = rw (zero-mul width)
raw_chunks width (suc count) bytes h fits =
    let front : number_bytes width (little_endian (take width bytes)) ≡ take width bytes =
    ap (λ w. number_bytes w (little_endian (take width bytes))) (sym (first_chunk width count bytes fits))
    ∙ number_bytes-little_endian (take width bytes) (All-take (λ b. b < 256) width bytes h) in
    let back : raw_text width (map little_endian (first_chunks width count (drop width bytes))) ≡ take (count * width) (drop width bytes) =
    raw_chunks width count (drop width bytes) (All-drop (λ b. b < 256) width bytes h) (omega (arith, length-drop width bytes, suc-mul count width)) in
    let whole : take (suc count * width) bytes ≡ take width bytes ++ take (count * width) (drop width bytes) =
    ap (λ n. take n bytes) {y = width + count * width} (omega (arith, suc-mul count width)) ∙ take-add width (count * width) bytes in
    rw (front, back) (sym whole)

fit_chunks : (width count : ℕ) (bytes : List ℕ) → All (λ b. b < 256) bytes → count * width ≤ length bytes
    → All (λ n. n < 256 ^ width) (map little_endian (first_chunks width count bytes))
fit_chunks width zero bytes h fits = All-nil (λ n. n < 256 ^ width)
fit_chunks width (suc count) bytes h fits =
    All-cons (λ n. n < 256 ^ width) _ _
    (let P : ℕ → Type 0 = λ w. little_endian (take width bytes) < 256 ^ w in
    subst P (first_chunk width count bytes fits) (little_endian_below (take width bytes) (All-take (λ b. b < 256) width bytes h)))
    (fit_chunks width count (drop width bytes) (All-drop (λ b. b < 256) width bytes h) (omega (arith, length-drop width bytes, suc-mul count width)))

pub first_chunks_spell : (width count : ℕ) (bytes : List ℕ) → All (λ b. b < 256) bytes → count * width ≤ length bytes
    → SpellsRaw width (take (count * width) bytes) (map little_endian (first_chunks width count bytes))
first_chunks_spell width count bytes h fits =
    record { whole = sym (raw_chunks width count bytes h fits); fit = fit_chunks width count bytes h fits }
