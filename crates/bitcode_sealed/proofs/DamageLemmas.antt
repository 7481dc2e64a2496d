-- Damage within four bytes in a row is seen.
use Rattle.std.proofs.Common.{◌≡◌, ℕ, ◌+◌, ◌-◌, ◌^◌, ◌<◌, ◌≤◌, List, ◌++◌, length, take, drop, sym, ap, subst, ◌∙◌, arith, length-append, length-take, length-drop}
use Rattle.std.proofs.lemmas.List.{take-append-drop, take_at, drop_at}
use Rattle.bitcode_memory.specs.LittleEndian.{number_bytes}
use Rattle.bitcode_memory.proofs.LittleEndianLemmas.{length-number_bytes}
use Rattle.bitcode_sealed.specs.declared.head.Head.{Head}
use Rattle.bitcode_sealed.specs.Crc.{ones, register_after, crc_32}
use Rattle.bitcode_sealed.specs.Layout.{checked, head_fields, head_bytes, sealed, IsSealed}
use Rattle.bitcode_sealed.specs.Damage.{DiffersWithinFour}
use Rattle.bitcode_sealed.proofs.CrcLemmas.{AreBytes, register_one_to_one, register-append, register_below, same_bytes, residue}
use Rattle.bitcode_sealed.proofs.PartLemmas.{All-left, All-right, take_three, drop_three}

abbrev IsByte : ℕ → Type 0
IsByte b = b < 256

-- two parts that differ within four bytes in a row do not differ
pub same_checked : (x y before was is after : List ℕ) → AreBytes (checked x) → AreBytes (checked y)
    → checked x ≡ before ++ was ++ after → checked y ≡ before ++ is ++ after → length is ≡ length was → length was ≤ 4 → was ≡ is
unfolding checked
same_checked x y before was is after hx hy ex ey as_long short =
    let all_x : AreBytes (before ++ was ++ after) = subst AreBytes ex hx in
    let all_y : AreBytes (before ++ is ++ after) = subst AreBytes ey hy in
    let front_x = All-left IsByte (before ++ was) after all_x in
    let front_y = All-left IsByte (before ++ is) after all_y in
    let bytes_before = All-left IsByte before was front_x in
    let bytes_was = All-right IsByte before was front_x in
    let bytes_is = All-right IsByte before is front_y in
    let bytes_after = All-right IsByte (before ++ was) after all_x in
    let start = register_after ones before in
    let start_below : start < 2 ^ 32 = register_below ones before (omega arith) bytes_before in
    let ends : register_after (register_after start was) after ≡ register_after (register_after start is) after =
    ap (λ s. register_after s after) (sym (register-append ones before was)) ∙ sym (register-append ones (before ++ was) after)
    ∙ ap (register_after ones) (sym ex) ∙ residue x (All-left IsByte x (number_bytes 4 (crc_32 x)) hx)
    ∙ sym (residue y (All-left IsByte y (number_bytes 4 (crc_32 y)) hy)) ∙ ap (register_after ones) ey
    ∙ register-append ones (before ++ is) after ∙ ap (λ s. register_after s after) (register-append ones before is) in
    same_bytes start was is start_below bytes_was bytes_is as_long short
    (register_one_to_one (register_after start was) (register_after start is) after (register_below start was start_below bytes_was)
    (register_below start is start_below bytes_is) bytes_after ends)

pub length-checked : (x : List ℕ) → length (checked x) ≡ length x + 4
unfolding checked
length-checked x = length-append x (number_bytes 4 (crc_32 x)) ∙ ap (λ n. length x + n) (length-number_bytes 4 (crc_32 x))

pub length-head_bytes : (head : Head) → length (head_bytes head) ≡ 20
length-head_bytes head = length-checked (head_fields head)

-- two checked parts behind two of 20 bytes, that differ within four bytes in a row, do not differ
same_parts : (h x k y before was is after : List ℕ) → length (checked h) ≡ 20 → length (checked k) ≡ 20
    → AreBytes (checked h ++ checked x) → AreBytes (checked k ++ checked y)
    → checked h ++ checked x ≡ before ++ was ++ after → checked k ++ checked y ≡ before ++ is ++ after → length is ≡ length was → length was ≤ 4 → was ≡ is
same_parts h x k y before was is after lh lk bytes damaged_bytes ea eb as_long short =
    let n = 20 - length before in
    let m = 20 - (length before + length was) in
    let m_same : 20 - (length before + length is) ≡ m = ap (λ l. 20 - (length before + l)) as_long in
    let head_is : checked h ≡ take 20 before ++ take n was ++ take m after = sym (take_at (checked h) (checked x) 20 lh) ∙ ap (take 20) ea ∙ take_three 20 before was after in
    let head_now : checked k ≡ take 20 before ++ take n is ++ take m after = sym (take_at (checked k) (checked y) 20 lk) ∙ ap (take 20) eb ∙ take_three 20 before is after
    ∙ ap (λ j. take 20 before ++ take n is ++ take j after) m_same in
    let rest_is : checked x ≡ drop 20 before ++ drop n was ++ drop m after = sym (drop_at (checked h) (checked x) 20 lh) ∙ ap (drop 20) ea ∙ drop_three 20 before was after in
    let rest_now : checked y ≡ drop 20 before ++ drop n is ++ drop m after = sym (drop_at (checked k) (checked y) 20 lk) ∙ ap (drop 20) eb ∙ drop_three 20 before is after
    ∙ ap (λ j. drop 20 before ++ drop n is ++ drop j after) m_same in
    let taken : length (take n is) ≡ length (take n was) = omega (arith, length-take n is, length-take n was) in
    let dropped : length (drop n is) ≡ length (drop n was) = omega (arith, length-drop n is, length-drop n was) in
    let in_head : take n was ≡ take n is = same_checked h k (take 20 before) (take n was) (take n is) (take m after)
    (All-left IsByte (checked h) (checked x) bytes) (All-left IsByte (checked k) (checked y) damaged_bytes) head_is head_now taken (omega (arith, length-take n was)) in
    let in_rest : drop n was ≡ drop n is = same_checked x y (drop 20 before) (drop n was) (drop n is) (drop m after)
    (All-right IsByte (checked h) (checked x) bytes) (All-right IsByte (checked k) (checked y) damaged_bytes) rest_is rest_now dropped (omega (arith, length-drop n was)) in
    sym (take-append-drop n was) ∙ ap (λ l. l ++ drop n was) in_head ∙ ap (λ l. take n is ++ l) in_rest ∙ take-append-drop n is

-- sealed bytes that differ within four bytes in a row are not both sealed
pub damage_seen : (bytes damaged : List ℕ) → AreBytes bytes → AreBytes damaged → IsSealed bytes → DiffersWithinFour bytes damaged → IsSealed damaged → ⊥
unfolding sealed
damage_seen bytes damaged hb hd was d now =
    let head = head_of was in
    let other = head_of now in
    d.differs (same_parts (head_fields head) was.value (head_fields other) now.value d.before d.was d.is d.after (length-head_bytes head) (length-head_bytes other)
    (subst AreBytes was.whole hb) (subst AreBytes now.whole hd) (sym was.whole ∙ d.bytes_are) (sym now.whole ∙ d.damaged_are) d.as_long d.short)
  where
    head_of : {bytes : List ℕ} → IsSealed bytes → Head
    head_of s = record { label = s.label; size = length s.value }
