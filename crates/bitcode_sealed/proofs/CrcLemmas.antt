-- CRC-32 keeps every difference: steps are linear and one-to-one.
use Rattle.std.proofs.Common.{◌≡◌, ℕ, zero, suc, ◌+◌, ◌*◌, ◌/◌, ◌%◌, ◌^◌, ◌<◌, ◌≤◌, List, [], ◌∷◌, ◌++◌, length, All, refl, sym, ap, ◌∙◌, arith, pow-suc, mul_assoc}
use Rattle.std.specs.Prelude.{bit_xor}
use Rattle.std.proofs.lemmas.Nat.{xor_comm, xor_shr, xor_mod, xor_of_32}
use Rattle.std.specs.Int.Bits.{xor_self, xor_zero_l, xor_zero_r, xor_assoc, xor_shifted}
use Rattle.std.proofs.lemmas.List.Elements.{All-nil, All-cons, All-head, All-tail}
use Rattle.bitcode_memory.specs.LittleEndian.{little_endian, number_bytes}
use Rattle.bitcode_memory.proofs.LittleEndianLemmas.{length-number_bytes, little_endian-number_bytes, number_bytes-little_endian, little_endian_below}
use Rattle.bitcode_sealed.specs.Crc.{feedback, bit_step, bit_steps, byte_step, register_after, ones, crc_32}

-- ---- exclusive or

pub xor_interchange : (a b c d : ℕ) → bit_xor (bit_xor a b) (bit_xor c d) ≡ bit_xor (bit_xor a c) (bit_xor b d)
xor_interchange a b c d =
    xor_assoc a b (bit_xor c d)
    ∙ ap (bit_xor a) (sym (xor_assoc b c d) ∙ ap (λ x. bit_xor x d) (xor_comm b c) ∙ xor_assoc c b d)
    ∙ sym (xor_assoc a c (bit_xor b d))

-- what is taken twice is gone
pub xor_twice : (a b : ℕ) → bit_xor (bit_xor a b) b ≡ a
xor_twice a b = xor_assoc a b b ∙ ap (bit_xor a) (xor_self b) ∙ xor_zero_r a

pub same_from_xor : (a b : ℕ) → bit_xor a b ≡ 0 → a ≡ b
same_from_xor a b h = sym (xor_twice a b) ∙ ap (λ x. bit_xor x b) h ∙ xor_zero_l b

pub xor_cancel_right : (a b c : ℕ) → bit_xor a c ≡ bit_xor b c → a ≡ b
xor_cancel_right a b c h = sym (xor_twice a c) ∙ ap (λ x. bit_xor x c) h ∙ xor_twice b c

pub xor_cancel_left : (a b c : ℕ) → bit_xor a b ≡ bit_xor a c → b ≡ c
xor_cancel_left a b c h = xor_cancel_right b c a (xor_comm b a ∙ h ∙ xor_comm a c)

-- ---- a step is linear

feedback-xor : (a b : ℕ) → a < 2 → b < 2 → feedback (bit_xor a b) ≡ bit_xor (feedback a) (feedback b)
feedback-xor zero b _ _ = refl
feedback-xor (suc zero) zero _ _ = refl
feedback-xor (suc zero) (suc zero) _ _ = refl
feedback-xor (suc zero) (suc (suc b)) _ h = absurd (omega arith)
feedback-xor (suc (suc a)) b h _ = absurd (omega arith)

pub bit_step-xor : (x y : ℕ) → bit_step (bit_xor x y) ≡ bit_xor (bit_step x) (bit_step y)
unfolding bit_step
bit_step-xor x y =
    let halves : bit_xor x y / 2 ≡ bit_xor (x / 2) (y / 2) = xor_shr x y 1 in
    let low : bit_xor x y % 2 ≡ bit_xor (x % 2) (y % 2) = xor_mod x y 1 in
    let back : feedback (bit_xor x y % 2) ≡ bit_xor (feedback (x % 2)) (feedback (y % 2)) =
    ap feedback low ∙ feedback-xor (x % 2) (y % 2) (omega arith) (omega arith) in
    ap (λ h. bit_xor h (feedback (bit_xor x y % 2))) halves ∙ ap (bit_xor (bit_xor (x / 2) (y / 2))) back
    ∙ xor_interchange (x / 2) (y / 2) (feedback (x % 2)) (feedback (y % 2))

pub bit_steps-xor : (n x y : ℕ) → bit_steps n (bit_xor x y) ≡ bit_xor (bit_steps n x) (bit_steps n y)
unfolding bit_steps
bit_steps-xor zero x y = refl
bit_steps-xor (suc n) x y = ap (bit_steps n) (bit_step-xor x y) ∙ bit_steps-xor n (bit_step x) (bit_step y)

-- zeros at the low end are shifted out as they are
pub bit_step_shifted : (y : ℕ) → bit_step (y * 2) ≡ y
unfolding bit_step
bit_step_shifted y =
    let half : y * 2 / 2 ≡ y = omega arith in
    let low : y * 2 % 2 ≡ 0 = omega arith in
    ap (λ h. bit_xor h (feedback (y * 2 % 2))) half ∙ ap (λ l. bit_xor y (feedback l)) low ∙ xor_zero_r y

pub bit_steps_shifted : (n y : ℕ) → bit_steps n (y * 2 ^ n) ≡ y
unfolding bit_steps
bit_steps_shifted zero y = omega arith
bit_steps_shifted (suc n) y =
    let power : 2 ^ suc n ≡ 2 ^ n * 2 = omega (arith, pow-suc 2 n) in
    let moved : y * 2 ^ suc n ≡ (y * 2 ^ n) * 2 = ap (λ p. y * p) power ∙ sym (mul_assoc y (2 ^ n) 2) in
    ap (λ z. bit_steps n (bit_step z)) moved ∙ ap (bit_steps n) (bit_step_shifted (y * 2 ^ n)) ∙ bit_steps_shifted n y

pub bit_steps-add : (m n x : ℕ) → bit_steps (m + n) x ≡ bit_steps n (bit_steps m x)
unfolding bit_steps
bit_steps-add zero n x = let e : 0 + n ≡ n = omega arith in ap (λ k. bit_steps k x) e
bit_steps-add (suc m) n x =
    let e : suc m + n ≡ suc (m + n) = omega arith in
    ap (λ k. bit_steps k x) e ∙ bit_steps-add m n (bit_step x)

-- ---- a step is one-to-one

pub bit_step_below : (x : ℕ) → x < 2 ^ 32 → bit_step x < 2 ^ 32
unfolding bit_step
bit_step_below x h = xor_of_32 (x / 2) (feedback (x % 2)) (omega arith) (feedback_below (x % 2))
  where
    feedback_below : (b : ℕ) → feedback b < 2 ^ 32
    feedback_below zero = omega arith
    feedback_below (suc b) = omega arith

pub bit_steps_below : (n x : ℕ) → x < 2 ^ 32 → bit_steps n x < 2 ^ 32
unfolding bit_steps
bit_steps_below zero x h = h
bit_steps_below (suc n) x h = bit_steps_below n (bit_step x) (bit_step_below x h)

zero_before : (half low : ℕ) → half < 2 ^ 31 → low < 2 → half ≡ feedback low → (half ≡ 0) × (low ≡ 0)
zero_before half zero _ _ h = (h, refl)
zero_before half (suc low) small _ h = absurd (omega arith)

bit_step_zero : (x : ℕ) → x < 2 ^ 32 → bit_step x ≡ 0 → x ≡ 0
unfolding bit_step
bit_step_zero x small h =
    let both = zero_before (x / 2) (x % 2) (omega arith) (omega arith) (same_from_xor (x / 2) (feedback (x % 2)) h) in
    omega (arith, both.0, both.1)

pub bit_step_one_to_one : (x y : ℕ) → x < 2 ^ 32 → y < 2 ^ 32 → bit_step x ≡ bit_step y → x ≡ y
bit_step_one_to_one x y hx hy h =
    same_from_xor x y (bit_step_zero (bit_xor x y) (xor_of_32 x y hx hy)
    (bit_step-xor x y ∙ ap (λ z. bit_xor z (bit_step y)) h ∙ xor_self (bit_step y)))

pub bit_steps_one_to_one : (n x y : ℕ) → x < 2 ^ 32 → y < 2 ^ 32 → bit_steps n x ≡ bit_steps n y → x ≡ y
unfolding bit_steps
bit_steps_one_to_one zero x y hx hy h = h
bit_steps_one_to_one (suc n) x y hx hy h =
    bit_step_one_to_one x y hx hy (bit_steps_one_to_one n (bit_step x) (bit_step y) (bit_step_below x hx) (bit_step_below y hy) h)

-- ---- bytes

abbrev pub AreBytes : List ℕ → Type 0
AreBytes bytes = All (λ byte. byte < 256) bytes

pub byte_step_below : (s b : ℕ) → s < 2 ^ 32 → b < 256 → byte_step s b < 2 ^ 32
unfolding byte_step
byte_step_below s b hs hb = bit_steps_below 8 (bit_xor s b) (xor_of_32 s b hs (omega arith))

pub register_below : (s : ℕ) (bytes : List ℕ) → s < 2 ^ 32 → AreBytes bytes → register_after s bytes < 2 ^ 32
unfolding register_after
register_below s [] hs _ = hs
register_below s (b ∷ bytes) hs h =
    register_below (byte_step s b) bytes (byte_step_below s b hs (All-head (λ x. x < 256) b bytes h)) (All-tail (λ x. x < 256) b bytes h)

pub register-append : (s : ℕ) (a b : List ℕ) → register_after s (a ++ b) ≡ register_after (register_after s a) b
unfolding register_after
register-append s [] b = refl
register-append s (x ∷ a) b = register-append (byte_step s x) a b

-- bytes that follow undo no difference
pub register_one_to_one : (s t : ℕ) (bytes : List ℕ) → s < 2 ^ 32 → t < 2 ^ 32 → AreBytes bytes → register_after s bytes ≡ register_after t bytes → s ≡ t
unfolding register_after byte_step
register_one_to_one s t [] _ _ _ h = h
register_one_to_one s t (b ∷ bytes) hs ht h e =
    let small : b < 256 = All-head (λ x. x < 256) b bytes h in
    let same : byte_step s b ≡ byte_step t b = register_one_to_one (byte_step s b) (byte_step t b) bytes (byte_step_below s b hs small) (byte_step_below t b ht small)
    (All-tail (λ x. x < 256) b bytes h) e in
    xor_cancel_right s t b (bit_steps_one_to_one 8 (bit_xor s b) (bit_xor t b) (xor_of_32 s b hs (omega arith)) (xor_of_32 t b ht (omega arith)) same)

-- a byte and a multiple of 256 have no bit in common
pub low_and_high : (b n : ℕ) → b < 256 → bit_xor b (n * 2 ^ 8) ≡ b + 256 * n
low_and_high b n h = let sum : bit_xor (n * 2 ^ 8) b ≡ n * 2 ^ 8 + b = xor_shifted n 8 b h in xor_comm b (n * 2 ^ 8) ∙ sum ∙ omega arith

-- bytes taken in one by one are one number, shifted out
pub register_at_once : (s : ℕ) (bytes : List ℕ) → AreBytes bytes → register_after s bytes ≡ bit_steps (8 * length bytes) (bit_xor s (little_endian bytes))
unfolding register_after byte_step bit_steps
register_at_once s [] _ = sym (xor_zero_r s)
register_at_once s (b ∷ bytes) h =
    let rest = little_endian bytes in
    let small : b < 256 = All-head (λ x. x < 256) b bytes h in
    let together : bit_xor (byte_step s b) rest ≡ bit_steps 8 (bit_xor s (b + 256 * rest)) =
    ap (bit_xor (byte_step s b)) (sym (bit_steps_shifted 8 rest))
    ∙ sym (bit_steps-xor 8 (bit_xor s b) (rest * 2 ^ 8))
    ∙ ap (bit_steps 8) (xor_assoc s b (rest * 2 ^ 8) ∙ ap (bit_xor s) (low_and_high b rest small)) in
    let count : 8 * suc (length bytes) ≡ 8 + 8 * length bytes = omega arith in
    register_at_once (byte_step s b) bytes (All-tail (λ x. x < 256) b bytes h)
    ∙ ap (bit_steps (8 * length bytes)) together
    ∙ sym (bit_steps-add 8 (8 * length bytes) (bit_xor s (b + 256 * rest)))
    ∙ ap (λ n. bit_steps n (bit_xor s (b + 256 * rest))) (sym count)

power : (n : ℕ) → n ≤ 4 → 256 ^ n ≤ 2 ^ 32
power zero _ = omega arith
power (suc zero) _ = omega arith
power (suc (suc zero)) _ = omega arith
power (suc (suc (suc zero))) _ = omega arith
power (suc (suc (suc (suc zero)))) _ = omega arith
power (suc (suc (suc (suc (suc n))))) h = absurd (omega arith)

-- bytes that are few enough are told apart by what they make of one register
pub same_bytes : (s : ℕ) (was is : List ℕ) → s < 2 ^ 32 → AreBytes was → AreBytes is → length is ≡ length was → length was ≤ 4
    → register_after s was ≡ register_after s is → was ≡ is
same_bytes s was is small hw hi as_long short h =
    let shifts : bit_steps (8 * length was) (bit_xor s (little_endian was)) ≡ bit_steps (8 * length was) (bit_xor s (little_endian is)) =
    sym (register_at_once s was hw) ∙ h ∙ register_at_once s is hi ∙ ap (λ n. bit_steps (8 * n) (bit_xor s (little_endian is))) as_long in
    let apart = bit_steps_one_to_one (8 * length was) (bit_xor s (little_endian was)) (bit_xor s (little_endian is))
    (xor_of_32 s (little_endian was) small (four_below was hw short)) (xor_of_32 s (little_endian is) small (four_below is hi (omega arith))) shifts in
    let number : little_endian was ≡ little_endian is = xor_cancel_left s (little_endian was) (little_endian is) apart in
    sym (number_bytes-little_endian was hw) ∙ ap (number_bytes (length was)) number ∙ ap (λ n. number_bytes n (little_endian is)) (sym as_long)
    ∙ number_bytes-little_endian is hi
  where
    four_below : (bytes : List ℕ) → AreBytes bytes → length bytes ≤ 4 → little_endian bytes < 2 ^ 32
    four_below bytes h short = omega (arith, little_endian_below bytes h, power (length bytes) short)

-- ---- a part with its checksum behind it

pub crc_below : (bytes : List ℕ) → AreBytes bytes → crc_32 bytes < 2 ^ 32
unfolding crc_32
crc_below bytes h = xor_of_32 (register_after ones bytes) ones (register_below ones bytes (omega arith) h) (omega arith)

-- a number's bytes are bytes
pub bytes_of_number : (width n : ℕ) → AreBytes (number_bytes width n)
bytes_of_number zero n = All-nil (λ b. b < 256)
bytes_of_number (suc width) n = All-cons (λ b. b < 256) (n % 256) (number_bytes width (n / 256)) (omega arith) (bytes_of_number width (n / 256))

-- the register after a part and its own checksum is one number, whatever the part
pub residue : (bytes : List ℕ) → AreBytes bytes → register_after ones (bytes ++ number_bytes 4 (crc_32 bytes)) ≡ bit_steps 32 ones
unfolding crc_32
residue bytes h =
    let s = register_after ones bytes in
    let below : crc_32 bytes < 256 ^ 4 = crc_below bytes h in
    let gone : bit_xor s (bit_xor s ones) ≡ ones = xor_comm s (bit_xor s ones) ∙ ap (λ x. bit_xor x s) (xor_comm s ones) ∙ xor_twice ones s in
    let count : 8 * length (number_bytes 4 (crc_32 bytes)) ≡ 32 = ap (λ n. 8 * n) (length-number_bytes 4 (crc_32 bytes)) in
    register-append ones bytes (number_bytes 4 (crc_32 bytes))
    ∙ register_at_once s (number_bytes 4 (crc_32 bytes)) (bytes_of_number 4 (crc_32 bytes))
    ∙ ap (λ n. bit_steps n (bit_xor s (little_endian (number_bytes 4 (crc_32 bytes))))) count
    ∙ ap (λ n. bit_steps 32 (bit_xor s n)) (little_endian-number_bytes 4 (crc_32 bytes) below)
    ∙ ap (bit_steps 32) gone
