-- Damage within four bytes in a row is seen at the front of a longer input too.
use Rattle.std.proofs.Common.{◌≡◌, ℕ, ◌+◌, ◌-◌, ◌^◌, ◌<◌, ◌≤◌, List, [], ◌++◌, length, take, drop, refl, sym, ap, subst, ◌∙◌, arith, length-append, length-take}
use Rattle.std.proofs.lemmas.List.{take_at, take-append-le, take-append-drop}
use Rattle.bitcode_memory.specs.LittleEndian.{little_endian}
use Rattle.bitcode_sealed.specs.declared.head.Head.{Head}
use Rattle.bitcode_sealed.specs.Layout.{checked, head_fields, head_bytes, sealed, IsSealed}
use Rattle.bitcode_sealed.specs.Damage.{BeginsSealed, BeginsDamaged}
use Rattle.bitcode_sealed.proofs.CrcLemmas.{AreBytes}
use Rattle.bitcode_sealed.proofs.PartLemmas.{All-left, take_three}
use Rattle.bitcode_sealed.proofs.DamageLemmas.{same_checked, length-head_bytes, damage_seen}
use Rattle.bitcode_sealed.proofs.AgainLemmas.{size_said}
use Rattle.bitcode_sealed.proofs.FrontLemmas.{length_sealed}

-- two heads that differ within four bytes in a row, among others, do not differ
same_heads : (h k before was is after : List ℕ) → AreBytes (checked h) → AreBytes (checked k)
    → checked h ≡ take 20 (before ++ was ++ after) → checked k ≡ take 20 (before ++ is ++ after) → length is ≡ length was → length was ≤ 4 → checked h ≡ checked k
same_heads h k before was is after hx hy eh ek as_long short =
    let n = 20 - length before in
    let m = 20 - (length before + length was) in
    let m_same : 20 - (length before + length is) ≡ m = ap (λ l. 20 - (length before + l)) as_long in
    let head_is : checked h ≡ take 20 before ++ take n was ++ take m after = eh ∙ take_three 20 before was after in
    let head_now : checked k ≡ take 20 before ++ take n is ++ take m after = ek ∙ take_three 20 before is after ∙ ap (λ j. take 20 before ++ take n is ++ take j after) m_same in
    let taken : length (take n is) ≡ length (take n was) = omega (arith, length-take n is, length-take n was, as_long) in
    let same : take n was ≡ take n is = same_checked h k (take 20 before) (take n was) (take n is) (take m after) hx hy head_is head_now taken (omega (arith, length-take n was, short)) in
    head_is ∙ ap (λ l. take 20 before ++ l ++ take m after) same ∙ sym head_now

-- parts that are replaced by others of the same length
length_replaced : (before was is after : List ℕ) → length is ≡ length was → length (before ++ is ++ after) ≡ length (before ++ was ++ after)
length_replaced before was is after e =
    length-append (before ++ is) after ∙ ap (λ n. n + length after) (length-append before is ∙ ap (λ n. length before + n) e ∙ sym (length-append before was))
    ∙ sym (length-append (before ++ was) after)

abbrev head_of : {bytes : List ℕ} → IsSealed bytes → Head
head_of s = record { label = s.label; size = length s.value }

length_of_sealed : (bytes : List ℕ) (s : IsSealed bytes) → length bytes ≡ 24 + length s.value
length_of_sealed bytes s = ap length s.whole ∙ length_sealed s.label s.value

first_of_sealed : (bytes : List ℕ) (s : IsSealed bytes) → take 20 bytes ≡ head_bytes (head_of s)
unfolding sealed
first_of_sealed bytes s = ap (take 20) s.whole ∙ take_at (head_bytes (head_of s)) (checked s.value) 20 (length-head_bytes (head_of s))

-- sealed bytes whose heads are the same have values of the same size
same_sizes : (bytes other : List ℕ) (s : IsSealed bytes) (t : IsSealed other) → length s.value < 256 ^ 8 → length t.value < 256 ^ 8
    → head_bytes (head_of s) ≡ head_bytes (head_of t) → length s.value ≡ length t.value
same_sizes bytes other s t small small_2 same =
    sym (size_said (head_of s) [] small) ∙ ap (λ l. little_endian (take 8 (drop 8 (l ++ [])))) same ∙ size_said (head_of t) [] small_2

take_of_front : (front rest : List ℕ) → 20 ≤ length front → take 20 (front ++ rest) ≡ take 20 front
take_of_front front rest long = rw take-append-le refl

bytes_taken : (n : ℕ) (bytes : List ℕ) → AreBytes bytes → AreBytes (take n bytes)
bytes_taken n bytes all = All-left (λ b. b < 256) (take n bytes) (drop n bytes) (subst AreBytes (sym (take-append-drop n bytes)) all)

pub front_damage_seen : (bytes damaged : List ℕ) → AreBytes bytes → AreBytes damaged → length bytes < 256 ^ 8 → length damaged < 256 ^ 8
    → IsSealed bytes → BeginsDamaged bytes damaged → BeginsSealed damaged → ⊥
front_damage_seen bytes damaged hb hd below below_2 was d now =
    let within = d.differs in
    let size : length d.front ≡ length bytes =
    ap length within.damaged_are ∙ length_replaced within.before within.was within.is within.after within.as_long ∙ sym (ap length within.bytes_are) in
    let long = length_of_sealed bytes was in
    let long_2 = length_of_sealed now.front now.is_sealed in
    let in_all : length damaged ≡ length now.front + length now.rest = ap length now.whole ∙ length-append now.front now.rest in
    let bytes_front : AreBytes d.front = All-left (λ b. b < 256) d.front d.rest (subst AreBytes d.whole hd) in
    let bytes_now : AreBytes now.front = All-left (λ b. b < 256) now.front now.rest (subst AreBytes now.whole hd) in
    let first : take 20 d.front ≡ take 20 now.front =
    sym (take_of_front d.front d.rest (omega (arith, size, long))) ∙ ap (take 20) (sym d.whole ∙ now.whole) ∙ take_of_front now.front now.rest (omega (arith, long_2)) in
    let heads : head_bytes (head_of was) ≡ head_bytes (head_of now.is_sealed) =
    same_heads (head_fields (head_of was)) (head_fields (head_of now.is_sealed)) within.before within.was within.is within.after
    (subst AreBytes (first_of_sealed bytes was) (bytes_taken 20 bytes hb)) (subst AreBytes (first_of_sealed now.front now.is_sealed) (bytes_taken 20 now.front bytes_now))
    (sym (first_of_sealed bytes was) ∙ ap (take 20) within.bytes_are)
    (sym (first_of_sealed now.front now.is_sealed) ∙ sym first ∙ ap (take 20) within.damaged_are) within.as_long within.short in
    let sizes = same_sizes bytes now.front was now.is_sealed (omega (arith, long, below)) (omega (arith, long_2, in_all, below_2)) heads in
    let as_long : length d.front ≡ length now.front = omega (arith, size, long, long_2, sizes) in
    let fronts : now.front ≡ d.front =
    sym (take_at now.front now.rest (length now.front) refl) ∙ ap (take (length now.front)) (sym now.whole ∙ d.whole) ∙ take_at d.front d.rest (length now.front) as_long in
    damage_seen bytes d.front hb bytes_front was within (subst IsSealed fronts now.is_sealed)
