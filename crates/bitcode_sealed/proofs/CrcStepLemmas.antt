-- Steps of several bytes, by what each byte becomes.
use Rattle.std.proofs.Common.{◌≡◌, ℕ, zero, suc, ◌+◌, ◌*◌, ◌/◌, ◌%◌, ◌^◌, ◌<◌, List, [], ◌∷◌, ◌++◌, length, refl, sym, ap, ◌∙◌, arith}
use Rattle.std.specs.Prelude.{bit_xor, bit_and, slice_index}
use Rattle.std.proofs.lemmas.Nat.{xor_shr, xor_of_32, and_mask}
use Rattle.std.specs.Int.Bits.{xor_zero_l, xor_zero_r, xor_assoc}
use Rattle.std.proofs.lemmas.List.Elements.{All-head, All-tail, All-append}
use Rattle.bitcode_sealed.proofs.PartLemmas.{All-left, All-right}
use Rattle.bitcode_memory.specs.LittleEndian.{little_endian, number_bytes}
use Rattle.bitcode_memory.proofs.LittleEndianLemmas.{length-number_bytes, little_endian-number_bytes, little_endian_below}
use Rattle.bitcode_sealed.specs.Crc.{bit_step, bit_steps, byte_step, register_after}
use Rattle.bitcode_sealed.proofs.CrcLemmas.{AreBytes, bit_steps-xor, bit_steps-add, bit_steps_shifted, low_and_high, register-append, register_at_once, bytes_of_number}

-- a byte taken in: what is in the lowest byte is shifted out, and the others move
pub byte_step_is : (s b : ℕ) → b < 256 → bit_xor (bit_steps 8 (bit_and (bit_xor s b) 255)) (s / 256) ≡ byte_step s b
unfolding byte_step
byte_step_is s b h =
    let x = bit_xor s b in
    let low = x % 256 in
    let high = x / 256 in
    let masked : bit_and x 255 ≡ low = and_mask x 8 in
    let none : b / 256 ≡ 0 = omega arith in
    let high_is : high ≡ s / 256 = xor_shr s b 8 ∙ ap (bit_xor (s / 256)) none ∙ xor_zero_r (s / 256) in
    let parts : x ≡ low + 256 * high = omega arith in
    let out : bit_steps 8 x ≡ bit_xor (bit_steps 8 low) high =
    ap (bit_steps 8) (parts ∙ sym (low_and_high low high (omega arith)))
    ∙ bit_steps-xor 8 low (high * 2 ^ 8) ∙ ap (bit_xor (bit_steps 8 low)) (bit_steps_shifted 8 high) in
    ap (λ m. bit_xor (bit_steps 8 m) (s / 256)) masked ∙ ap (bit_xor (bit_steps 8 low)) (sym high_is) ∙ sym out

-- a zero register takes in nothing
pub bit_steps_zero : (n : ℕ) → bit_steps n 0 ≡ 0
unfolding bit_steps bit_step
bit_steps_zero zero = refl
bit_steps_zero (suc n) = bit_steps_zero n

-- the first of several bytes becomes what it does with as many zero bytes behind it, and the others are put over that
pub first_of : (b : ℕ) (bytes : List ℕ) → b < 256 → AreBytes bytes → register_after 0 (b ∷ bytes) ≡ bit_xor (bit_steps (8 + 8 * length bytes) b) (register_after 0 bytes)
unfolding register_after byte_step
first_of b bytes small h =
    register_at_once (bit_steps 8 (bit_xor 0 b)) bytes h
    ∙ bit_steps-xor (8 * length bytes) (bit_steps 8 (bit_xor 0 b)) (little_endian bytes)
    ∙ ap (λ x. bit_xor (bit_steps (8 * length bytes) (bit_steps 8 x)) (bit_steps (8 * length bytes) (little_endian bytes))) (xor_zero_l b)
    ∙ ap (λ x. bit_xor x (bit_steps (8 * length bytes) (little_endian bytes))) (sym (bit_steps-add 8 (8 * length bytes) b))
    ∙ ap (bit_xor (bit_steps (8 + 8 * length bytes) b)) (ap (bit_steps (8 * length bytes)) (sym (xor_zero_l (little_endian bytes))) ∙ sym (register_at_once 0 bytes h))

-- the register is put over the first four bytes, and is then zero
pub over_four : (s : ℕ) (four bytes : List ℕ) → s < 2 ^ 32 → AreBytes four → length four ≡ 4
    → register_after s (four ++ bytes) ≡ register_after 0 (number_bytes 4 (bit_xor s (little_endian four)) ++ bytes)
over_four s four bytes small h size =
    let word = bit_xor s (little_endian four) in
    let four_below : little_endian four < 256 ^ length four = little_endian_below four h in
    let word_below : word < 2 ^ 32 = xor_of_32 s (little_endian four) small (ap_below (length four) size four_below) in
    let shifts : 8 * length four ≡ 8 * length (number_bytes 4 word) = ap (λ n. 8 * n) (size ∙ sym (length-number_bytes 4 word)) in
    register-append s four bytes
    ∙ ap (λ x. register_after x bytes) (register_at_once s four h
    ∙ ap (λ n. bit_steps n word) shifts
    ∙ ap (bit_steps (8 * length (number_bytes 4 word))) (sym (little_endian-number_bytes 4 word word_below) ∙ sym (xor_zero_l (little_endian (number_bytes 4 word))))
    ∙ sym (register_at_once 0 (number_bytes 4 word) (bytes_of_number 4 word)))
    ∙ sym (register-append 0 (number_bytes 4 word) bytes)
  where
    ap_below : (n : ℕ) → n ≡ 4 → little_endian four < 256 ^ n → little_endian four < 2 ^ 32
    ap_below n e h = rw e at h

-- one more byte is put over what became of those before it
one_more : (x b : ℕ) (bytes : List ℕ) → AreBytes (b ∷ bytes)
    → bit_xor x (register_after 0 (b ∷ bytes)) ≡ bit_xor (bit_xor x (bit_steps (8 + 8 * length bytes) b)) (register_after 0 bytes)
one_more x b bytes h =
    ap (bit_xor x) (first_of b bytes (All-head (λ y. y < 256) b bytes h) (All-tail (λ y. y < 256) b bytes h))
    ∙ sym (xor_assoc x (bit_steps (8 + 8 * length bytes) b) (register_after 0 bytes))

-- eight bytes become what their tables say
pub eight_out : (a b c d e f g h : ℕ) → AreBytes (a ∷ b ∷ c ∷ d ∷ e ∷ f ∷ g ∷ h ∷ [])
    → register_after 0 (a ∷ b ∷ c ∷ d ∷ e ∷ f ∷ g ∷ h ∷ [])
    ≡ bit_xor (bit_xor (bit_xor (bit_xor (bit_xor (bit_xor (bit_xor (bit_steps 64 a) (bit_steps 56 b)) (bit_steps 48 c)) (bit_steps 40 d)) (bit_steps 32 e)) (bit_steps 24 f))
    (bit_steps 16 g)) (bit_steps 8 h)
unfolding register_after
eight_out a b c d e f g h all =
    let P : ℕ → Type 0 = λ y. y < 256 in
    let from_b = All-tail P a (b ∷ c ∷ d ∷ e ∷ f ∷ g ∷ h ∷ []) all in
    let from_c = All-tail P b (c ∷ d ∷ e ∷ f ∷ g ∷ h ∷ []) from_b in
    let from_d = All-tail P c (d ∷ e ∷ f ∷ g ∷ h ∷ []) from_c in
    let from_e = All-tail P d (e ∷ f ∷ g ∷ h ∷ []) from_d in
    let from_f = All-tail P e (f ∷ g ∷ h ∷ []) from_e in
    let from_g = All-tail P f (g ∷ h ∷ []) from_f in
    let from_h = All-tail P g (h ∷ []) from_g in
    first_of a (b ∷ c ∷ d ∷ e ∷ f ∷ g ∷ h ∷ []) (All-head P a (b ∷ c ∷ d ∷ e ∷ f ∷ g ∷ h ∷ []) all) from_b
    ∙ one_more _ b (c ∷ d ∷ e ∷ f ∷ g ∷ h ∷ []) from_b ∙ one_more _ c (d ∷ e ∷ f ∷ g ∷ h ∷ []) from_c ∙ one_more _ d (e ∷ f ∷ g ∷ h ∷ []) from_d
    ∙ one_more _ e (f ∷ g ∷ h ∷ []) from_e ∙ one_more _ f (g ∷ h ∷ []) from_f ∙ one_more _ g (h ∷ []) from_g ∙ one_more _ h [] from_h ∙ xor_zero_r _

-- eight bytes, one by one
pub eight_bytes : (bytes : List ℕ) → length bytes ≡ 8
    → bytes ≡ slice_index bytes 0 ∷ slice_index bytes 1 ∷ slice_index bytes 2 ∷ slice_index bytes 3 ∷ slice_index bytes 4 ∷ slice_index bytes 5 ∷ slice_index bytes 6
    ∷ slice_index bytes 7 ∷ []
eight_bytes (a ∷ b ∷ c ∷ d ∷ e ∷ f ∷ g ∷ h ∷ []) l = refl
eight_bytes [] l = absurd (omega (arith, l))
eight_bytes (a ∷ []) l = absurd (omega (arith, l))
eight_bytes (a ∷ b ∷ []) l = absurd (omega (arith, l))
eight_bytes (a ∷ b ∷ c ∷ []) l = absurd (omega (arith, l))
eight_bytes (a ∷ b ∷ c ∷ d ∷ []) l = absurd (omega (arith, l))
eight_bytes (a ∷ b ∷ c ∷ d ∷ e ∷ []) l = absurd (omega (arith, l))
eight_bytes (a ∷ b ∷ c ∷ d ∷ e ∷ f ∷ []) l = absurd (omega (arith, l))
eight_bytes (a ∷ b ∷ c ∷ d ∷ e ∷ f ∷ g ∷ []) l = absurd (omega (arith, l))
eight_bytes (a ∷ b ∷ c ∷ d ∷ e ∷ f ∷ g ∷ h ∷ x ∷ bytes) l = absurd (omega (arith, l))

-- the register put over the first four of eight bytes, and what becomes of these by the tables
pub eight_at_once : (s : ℕ) (b0 b1 b2 b3 b4 b5 b6 b7 : ℕ) (word : List ℕ) → s < 2 ^ 32 → AreBytes (b0 ∷ b1 ∷ b2 ∷ b3 ∷ b4 ∷ b5 ∷ b6 ∷ b7 ∷ [])
    → word ≡ number_bytes 4 (bit_xor s (little_endian (b0 ∷ b1 ∷ b2 ∷ b3 ∷ [])))
    → bit_xor (bit_xor (bit_xor (bit_xor (bit_xor (bit_xor (bit_xor (bit_steps 64 (slice_index word 0)) (bit_steps 56 (slice_index word 1))) (bit_steps 48 (slice_index word 2)))
    (bit_steps 40 (slice_index word 3))) (bit_steps 32 b4)) (bit_steps 24 b5)) (bit_steps 16 b6)) (bit_steps 8 b7)
    ≡ register_after s (b0 ∷ b1 ∷ b2 ∷ b3 ∷ b4 ∷ b5 ∷ b6 ∷ b7 ∷ [])
eight_at_once s b0 b1 b2 b3 b4 b5 b6 b7 word small all is =
    let four = b0 ∷ b1 ∷ b2 ∷ b3 ∷ [] in
    let rest = b4 ∷ b5 ∷ b6 ∷ b7 ∷ [] in
    let n = bit_xor s (little_endian four) in
    let over : List ℕ → ℕ = λ w. bit_xor (bit_xor (bit_xor (bit_xor (bit_xor (bit_xor (bit_xor (bit_steps 64 (slice_index w 0)) (bit_steps 56 (slice_index w 1)))
    (bit_steps 48 (slice_index w 2))) (bit_steps 40 (slice_index w 3))) (bit_steps 32 b4)) (bit_steps 24 b5)) (bit_steps 16 b6)) (bit_steps 8 b7) in
    let bytes_four : AreBytes four = All-left (λ y. y < 256) four rest all in
    let bytes_rest : AreBytes rest = All-right (λ y. y < 256) four rest all in
    let bytes_word : AreBytes (number_bytes 4 n ++ rest) = All-append (λ y. y < 256) (number_bytes 4 n) rest (bytes_of_number 4 n) bytes_rest in
    ap over is
    ∙ sym (eight_out (n % 256) (n / 256 % 256) (n / 256 / 256 % 256) (n / 256 / 256 / 256 % 256) b4 b5 b6 b7 bytes_word)
    ∙ sym (over_four s four rest small bytes_four refl)
