-- The number that octets spell, the highest first. Lists of as many octets spell the same number only if they are one,
-- and octets spell each number that is small enough.
use Rattle.std.proofs.Common.{◌≡◌, ℕ, zero, suc, ◌+◌, ◌*◌, ◌/◌, ◌%◌, ◌^◌, ◌<◌, List, [], ◌∷◌, length, refl, sym, ◌∙◌, ap, ap₂, subst, arith, lit<, mul-le-mul_left, mod-eq_of_lt, pow-suc}
use Rattle.std.specs.Prelude.{All}
use Rattle.std.specs.Int.{bytes_high_first, byte_at}
use Rattle.std.specs.Net.Addr.{octets_of, segments_of}
use Rattle.std.proofs.lemmas.List.Elements.{All-nil, All-cons, All-head, All-tail}
use Rattle.std.proofs.lemmas.Nat.{div-add-mod', div-mul-add, mod-mul-add}
use Rattle.std.proofs.Math.Arith.{mod-mul}

abbrev pub number_of : List ℕ → ℕ
number_of [] = 0
number_of (b ∷ bs) = b * 256 ^ length bs + number_of bs

abbrev pub IsOctet : ℕ → Type 0
IsOctet b = b < 256

abbrev pub IsSegment : ℕ → Type 0
IsSegment s = s < 65536

abbrev pub AreOctets : List ℕ → Type 0
AreOctets bs = All IsOctet bs

-- ---- octets as a number

one_more : (b r p : ℕ) → b < 256 → r < p → b * p + r < p * 256
one_more b r p h i = omega (arith, mul-le-mul_left p h)

pub number_below : (bs : List ℕ) → AreOctets bs → number_of bs < 256 ^ length bs
number_below [] h = lit< tt
number_below (b ∷ bs) h =
    subst (λ bound. b * 256 ^ length bs + number_of bs < bound) (sym (pow-suc 256 (length bs)))
    (one_more b (number_of bs) (256 ^ length bs) (All-head IsOctet b bs h) (number_below bs (All-tail IsOctet b bs h)))

pub octets_once : (bs cs : List ℕ) → length bs ≡ length cs → AreOctets bs → AreOctets cs → number_of bs ≡ number_of cs → bs ≡ cs
octets_once [] [] l h i same = refl
octets_once [] (c ∷ cs) l h i same = absurd (omega arith)
octets_once (b ∷ bs) [] l h i same = absurd (omega arith)
octets_once (b ∷ bs) (c ∷ cs) l h i same =
    let size : length bs ≡ length cs = omega arith in
    let below = number_below bs (All-tail IsOctet b bs h) in
    let other : number_of cs < 256 ^ length bs = subst (λ k. number_of cs < 256 ^ k) (sym size) (number_below cs (All-tail IsOctet c cs i)) in
    let one : b * 256 ^ length bs + number_of bs ≡ c * 256 ^ length bs + number_of cs = same ∙ ap (λ k. c * 256 ^ k + number_of cs) (sym size) in
    let first : b ≡ c = sym (div-mul-add b _ _ below) ∙ ap (λ n. n / 256 ^ length bs) one ∙ div-mul-add c _ _ other in
    let rest : number_of bs ≡ number_of cs = sym (mod-mul-add b _ _ below) ∙ ap (λ n. n % 256 ^ length bs) one ∙ mod-mul-add c _ _ other in
    ap₂ (λ x xs. x ∷ xs) first (octets_once bs cs size (All-tail IsOctet b bs h) (All-tail IsOctet c cs i) rest)

-- ---- the octets of a number

pub high_length : (k n : ℕ) → length (bytes_high_first k n) ≡ k
high_length zero n = refl
high_length (suc k) n = ap suc (high_length k n)

at_below : (k n : ℕ) → byte_at k n < 256
at_below zero n = omega arith
at_below (suc k) n = omega arith

pub high_octets : (k n : ℕ) → AreOctets (bytes_high_first k n)
high_octets zero n = All-nil IsOctet
high_octets (suc k) n = All-cons IsOctet (byte_at k n) (bytes_high_first k n) (at_below k n) (high_octets k n)

at_place : (k n : ℕ) → byte_at k n ≡ n / 256 ^ k % 256
at_place zero n = omega arith
at_place (suc k) n = refl

some_places : (k : ℕ) → 0 < 256 ^ k
some_places zero = lit< tt
some_places (suc k) = let more = some_places k in omega (arith, pow-suc 256 k)

high_number : (k n : ℕ) → number_of (bytes_high_first k n) ≡ n % 256 ^ k
high_number zero n = omega arith
high_number (suc k) n =
    ap₂ (λ p r. byte_at k n * 256 ^ p + r) (high_length k n) (high_number k n)
    ∙ ap (λ b. b * 256 ^ k + n % 256 ^ k) (at_place k n)
    ∙ sym (mod-mul n (lit< tt) (some_places k))
    ∙ ap (λ m. n % m) (sym (pow-suc 256 k ∙ omega arith))

pub spelled : (k n : ℕ) → n < 256 ^ k → number_of (bytes_high_first k n) ≡ n
spelled k n h = high_number k n ∙ mod-eq_of_lt h

-- ---- the octets of segments

pub octets_fit : (segments : List ℕ) → All IsSegment segments → AreOctets (octets_of segments)
octets_fit [] h = All-nil IsOctet
octets_fit (s ∷ segments) h =
    let small = All-head IsSegment s segments h in
    let rest = octets_fit segments (All-tail IsSegment s segments h) in
    All-cons IsOctet (s / 256) (s % 256 ∷ octets_of segments) (omega arith) (All-cons IsOctet (s % 256) (octets_of segments) (omega arith) rest)

pub octets_length : (segments : List ℕ) → length (octets_of segments) ≡ length segments + length segments
octets_length [] = refl
octets_length (s ∷ segments) = let rest = octets_length segments in omega arith

-- a segment is what its two octets spell
pub segments_again : (segments : List ℕ) → segments_of (octets_of segments) ≡ segments
segments_again [] = refl
segments_again (s ∷ segments) = ap₂ (λ x xs. x ∷ xs) (div-add-mod' s 256) (segments_again segments)

-- of the first two octets, and of those behind them
second : (a b : ℕ) (bs : List ℕ) → AreOctets (a ∷ b ∷ bs) → b < 256
second a b bs h = All-head IsOctet b bs (All-tail IsOctet a (b ∷ bs) h)

behind : (a b : ℕ) (bs : List ℕ) → AreOctets (a ∷ b ∷ bs) → AreOctets bs
behind a b bs h = All-tail IsOctet b bs (All-tail IsOctet a (b ∷ bs) h)

pub octets_again : (bs : List ℕ) (k : ℕ) → length bs ≡ k + k → AreOctets bs → octets_of (segments_of bs) ≡ bs
octets_again [] k l h = refl
octets_again (a ∷ []) k l h = absurd (omega arith)
octets_again (a ∷ b ∷ bs) zero l h = absurd (omega arith)
octets_again (a ∷ b ∷ bs) (suc k) l h =
    let rest = octets_again bs k (omega arith) (behind a b bs h) in
    ap₂ (λ x xs. x ∷ xs) (div-mul-add a 256 b (second a b bs h)) (ap₂ (λ x xs. x ∷ xs) (mod-mul-add a 256 b (second a b bs h)) rest)

pub segments_fit : (bs : List ℕ) → AreOctets bs → All IsSegment (segments_of bs)
segments_fit [] h = All-nil IsSegment
segments_fit (a ∷ []) h = All-nil IsSegment
segments_fit (a ∷ b ∷ bs) h =
    let high = All-head IsOctet a (b ∷ bs) h in
    let low = second a b bs h in
    All-cons IsSegment (a * 256 + b) (segments_of bs) (omega arith) (segments_fit bs (behind a b bs h))
