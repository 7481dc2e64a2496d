-- The bytes of a column of integers are its text where their header is that of the integers and the numbers behind it are written so.
use Rattle.std.proofs.Common.{◌≡◌, ◌⊎◌, inl, inr, ℕ, ◌+◌, ◌-◌, ◌*◌, ◌%◌, ◌^◌, ◌<◌, ◌≤◌, Bool, true, false, eqb, ltb, cond, ◌||◌, ◌&&◌, MatchBool, IsTrue, ℤ, pos, negsuc, List, [], ◌∷◌, ◌++◌, length, take, drop, get_or, map, All, arith, ap, ap₂, refl, sym, ◌∙◌, subst, ⊎_elim}
use Rattle.std.specs.Prelude.{◌↔◌, ◌-ℤ◌, ◌≤ℤ◌, unsigned_abs, int_lt}
use Rattle.std.specs.List.{fold}
use Rattle.std.specs.Int.{int_min, int_max}
use Rattle.std.proofs.Math.Nat.{mod-eq_of_lt, add-mod_right, mod-lt, pow-le-pow_right, mul-one, mul-zero}
use Rattle.std.proofs.Math.Seq.{take-append_seam, drop-append_seam}
use Rattle.std.specs.Cmp.Derive.{both_true}
use Rattle.std.proofs.lemmas.Bool.{and_parts, ltb-true, lt-ltb, le-ltb, cases_lt, cases_Bool, true≢false, cond-true, cond-false, cond_both, eqb-true, eq-eqb, ne_eqb}
use Rattle.std.proofs.lemmas.Grind.{same_number_lists}
use Rattle.std.proofs.lemmas.Int.{ints}
use Rattle.std.proofs.lemmas.List.{length-append, length-map, length-take-le, get_or-map, map-id, nil_from_length, append_cancel_left, take-append-drop}
use Rattle.std.proofs.lemmas.List.Elements.{All-map, All-take, All-drop, All-head, All-tail}
use Rattle.std.proofs.lemmas.Simd.{map-map}
use Rattle.bitcode_columns.specs.ByteColumn.{SpellsBytes, byte_text}
use Rattle.bitcode_columns.specs.IntColumn.{bytes_form, bare_form, tagged_form, int_form, halvings, highest_int_tag, width_at_level, width_for, SpellsNarrow, SpellsAtIntLevel, SpellsInts, SpellsIntsAs, narrow_text, int_text}
use Rattle.bitcode_memory.specs.IntWidths.{IsWidth}
use Rattle.bitcode_memory.specs.Ints.{IsNumber, residue, number_of, least, greatest}
use Rattle.bitcode_memory.specs.LittleEndian.{little_endian, number_bytes, SpellsRaw, raw_text}
use Rattle.bitcode_int_columns.specs.Narrowing.{above, plain_width, shifted_width}
use Rattle.bitcode_columns.specs.Tagged.{level_of_tag, SpellsTagged}
use Rattle.bitcode_int_columns.proofs.AppendLemmas.{int_text_bare, int_text_tagged}
use Rattle.bitcode_columns.proofs.FrontLemmas.{append_split}
use Rattle.bitcode_columns.proofs.IntColumnLemmas.{some_width, width_at_level_between, halvings_order, halvings_exact}
use Rattle.bitcode_memory.proofs.IntLemmas.{residue_below, residue-number_of, IsNumber-number_of, least_below}
use Rattle.bitcode_memory.proofs.LittleEndianLemmas.{length-number_bytes, little_endian-number_bytes, number_bytes-little_endian}
use Rattle.bitcode_columns.proofs.TaggedLemmas.{least_among, not_negative}
use Rattle.bitcode_int_columns.proofs.WrittenLemmas.{Entries, shifted_fits, plain_fits, shifted_numbers, plain_numbers, shifted_text_is, plain_text_is, in_order}

-- ---- the least entry in the header

pub least_front : (width low : ℕ) (behind : List ℕ) → All (λ b. b < 256) behind → width ≤ length behind → little_endian (take width behind) ≡ low
    → behind ≡ number_bytes width low ++ drop width behind
least_front width low behind below enough is =
    let front : number_bytes (length (take width behind)) (little_endian (take width behind)) ≡ take width behind =
    number_bytes-little_endian (take width behind) (All-take (λ b. b < 256) width behind below) in
    let bytes : number_bytes width low ≡ take width behind
    = ap₂ number_bytes (sym (length-take-le width behind enough)) (sym is) ∙ front in
    sym (ap (λ x. x ++ drop width behind) bytes ∙ take-append-drop width behind)

pub front_least : (width low : ℕ) (behind body : List ℕ) → low < 256 ^ width → behind ≡ number_bytes width low ++ body
    → (width ≤ length behind) × (little_endian (take width behind) ≡ low)
front_least width low behind body small whole = (
  omega (arith, ap length whole, length-append (number_bytes width low) body, length-number_bytes width low),
  ap little_endian (ap₂ take (sym (length-number_bytes width low)) whole ∙ take-append_seam (number_bytes width low) body) ∙ little_endian-number_bytes width low small,
)

-- ---- narrow numbers

narrow_found : (all low n e : ℕ) → low < all → n < all → (n + low) % all ≡ e → (e + (all - low)) % all ≡ n
narrow_found all low n e h k is =
    ⊎_elim
    (λ within.
    let same : e ≡ n + low = sym is ∙ mod-eq_of_lt within in
    ap (λ m. m % all) {x = e + (all - low)} {y = n + all} (omega arith) ∙ add-mod_right n all ∙ mod-eq_of_lt k)
    (λ past.
    let round : (n + low) % all ≡ n + low - all = ap (λ m. m % all) {x = n + low} {y = (n + low - all) + all} (omega arith) ∙ add-mod_right (n + low - all) all ∙ mod-eq_of_lt (omega arith) in
    ap (λ m. m % all) {x = e + (all - low)} {y = n} (omega arith) ∙ mod-eq_of_lt k)
    (cases_lt (n + low) all)

bytes_below : (body numbers : List ℕ) → All (λ b. b < 256) body → SpellsBytes body numbers → All (λ n. n < 256) numbers
bytes_below body numbers below (inl bare) = subst (All (λ n. n < 256)) bare.1 below
bytes_below body numbers below (inr tagged) =
    let s = tagged.1 in
    subst (All (λ n. n < 256)) (sym s.widened)
    (All-map (λ n. n < 256) (λ n. (n + little_endian s.least_bytes) % 256) s.narrow (λ k d i. mod-lt (get_or s.narrow k d + little_endian s.least_bytes) {m = 256} (omega arith)))

pub narrow_below : (width : ℕ) (body numbers : List ℕ) → All (λ b. b < 256) body → SpellsNarrow width body numbers → All (λ n. n < 256 ^ width) numbers
narrow_below width body numbers below s =
    ⊎_elim
    (λ one. subst (λ w. All (λ n. n < 256 ^ w) numbers) (sym (eqb-true width 1 one)) (bytes_below body numbers below (subst (λ b. MatchBool b (SpellsBytes body numbers) (SpellsRaw width body numbers)) one s)))
    (λ wide. let raw : SpellsRaw width body numbers = subst (λ b. MatchBool b (SpellsBytes body numbers) (SpellsRaw width body numbers)) wide s in raw.fit)
    (cases_Bool (eqb width 1))

module _ (width : ℕ) (signed : Bool) (is_width : IsWidth width) (entries : List ℤ) (numbers : All (IsNumber width signed) entries) (packed : List ℕ)
    (s : SpellsTagged width (highest_int_tag width) (SpellsAtIntLevel width) packed (map (residue width) entries)) where
  narrow_size : length s.narrow ≡ length entries
  narrow_size =
      sym (ap length s.widened ∙ length-map s.narrow (λ n. (n + little_endian s.least_bytes) % 256 ^ width)) ∙ length-map entries (residue width)

  entry_is : (k : ℕ) → k < length entries → (get_or s.narrow k 0 + little_endian s.least_bytes) % 256 ^ width ≡ residue width (get_or entries k (pos 0))
  entry_is k inside =
      let low = little_endian s.least_bytes in
      sym (get_or-map (λ n. (n + low) % 256 ^ width) s.narrow k 0 ((0 + low) % 256 ^ width) (omega (arith, narrow_size)))
      ∙ ap (λ xs. get_or xs k ((0 + low) % 256 ^ width)) (sym s.widened)
      ∙ get_or-map (residue width) entries k (pos 0) ((0 + low) % 256 ^ width) inside

  narrow_spelled : (narrow low : ℕ) (body : List ℕ) → IsWidth narrow → narrow ≤ width → level_of_tag s.tag ≡ halvings width - halvings narrow
      → s.body ≡ body → All (λ b. b < 256) body → little_endian s.least_bytes ≡ low → low < 256 ^ width
      → SpellsNarrow narrow body (map (λ e. above width low e % 256 ^ narrow) entries)
  narrow_spelled narrow low body is_narrow fits level bodies below lowest small =
      let at : width_at_level width (level_of_tag s.tag) ≡ narrow = ap (width_at_level width) level ∙ width_at_level_between width narrow is_width is_narrow fits in
      let spelled : SpellsNarrow narrow body s.narrow = subst (λ b. SpellsNarrow narrow b s.narrow) bodies (subst (λ w. SpellsNarrow w s.body s.narrow) at s.narrowed) in
      let each : All (λ n. n < 256 ^ narrow) s.narrow = narrow_below narrow body s.narrow below spelled in
      let wider : 256 ^ narrow ≤ 256 ^ width = pow-le-pow_right {n = 256} (omega arith) {i = narrow} {j = width} fits in
      let far : ℤ → ℕ = λ e. above width low e % 256 ^ narrow in
      let same : s.narrow ≡ map far entries =
      same_number_lists s.narrow (map far entries) (narrow_size ∙ sym (length-map entries far))
      (λ k inside.
      let within : k < length entries = omega (arith, narrow_size) in
      let n : ℕ = get_or s.narrow k 0 in
      let z : ℤ = get_or entries k (pos 0) in
      let n_small : n < 256 ^ narrow = each k 0 inside in
      let here : (n + low) % 256 ^ width ≡ residue width z = ap (λ l. (n + l) % 256 ^ width) (sym lowest) ∙ entry_is k within in
      let found : above width low z ≡ n = narrow_found (256 ^ width) low n (residue width z) small (omega arith) here in
      sym (get_or-map far entries k (pos 0) 0 within ∙ ap (λ m. m % 256 ^ narrow) found ∙ mod-eq_of_lt n_small)) in
      subst (SpellsNarrow narrow body) same spelled

  pub plain_behind : (narrow tag : ℕ) (body : List ℕ) → IsWidth narrow → narrow ≤ width → tag ≡ 2 * (halvings width - halvings narrow) → packed ≡ tag ∷ body
      → All (λ b. b < 256) body → SpellsNarrow narrow body (map (λ e. above width 0 e % 256 ^ narrow) entries)
  plain_behind narrow tag body is_narrow fits is whole below =
      let joined : s.tag ∷ (s.least_bytes ++ s.body) ≡ tag ∷ body = sym s.whole ∙ whole in
      let tags : s.tag ≡ tag = cc joined in
      let behind : s.least_bytes ++ s.body ≡ body = cc joined in
      let level : level_of_tag s.tag ≡ halvings width - halvings narrow = omega arith in
      let even : s.tag % 2 ≡ 0 = omega arith in
      let none : s.least_bytes ≡ [] = nil_from_length s.least_bytes (s.least_size ∙ ap (λ t. width * t) even ∙ mul-zero width) in
      let bodies : s.body ≡ body = ap (λ l. l ++ s.body) (sym none) ∙ behind in
      let some : 1 ≤ 256 ^ width = pow-le-pow_right {n = 256} (omega arith) {i = 0} {j = width} (omega arith) in
      narrow_spelled narrow 0 body is_narrow fits level bodies below (ap little_endian none) (omega arith)

  pub shifted_behind : (narrow tag low : ℕ) (body : List ℕ) → IsWidth narrow → narrow ≤ width → 1 ≤ halvings width - halvings narrow
      → tag ≡ 2 * (halvings width - halvings narrow) - 1 → low < 256 ^ width → packed ≡ tag ∷ (number_bytes width low ++ body)
      → All (λ b. b < 256) body → SpellsNarrow narrow body (map (λ e. above width low e % 256 ^ narrow) entries)
  shifted_behind narrow tag low body is_narrow fits some is small whole below =
      let joined : s.tag ∷ (s.least_bytes ++ s.body) ≡ tag ∷ (number_bytes width low ++ body) = sym s.whole ∙ whole in
      let tags : s.tag ≡ tag = cc joined in
      let behind : s.least_bytes ++ s.body ≡ number_bytes width low ++ body = cc joined in
      let level : level_of_tag s.tag ≡ halvings width - halvings narrow = omega arith in
      let odd : s.tag % 2 ≡ 1 = omega arith in
      let size : length s.least_bytes ≡ width = s.least_size ∙ ap (λ t. width * t) odd ∙ mul-one width in
      let parts = append_split s.least_bytes (number_bytes width low) s.body body (size ∙ sym (length-number_bytes width low)) behind in
      narrow_spelled narrow low body is_narrow fits level parts.1 below (ap little_endian parts.0 ∙ little_endian-number_bytes width low small) small

-- ---- the least and the greatest of narrow numbers of one byte

min_less : (a b low : ℤ) → int_min (a -ℤ low) (b -ℤ low) ≡ int_min a b -ℤ low
min_less a b low = grind (arith, ints)

max_less : (a b low : ℤ) → int_max (a -ℤ low) (b -ℤ low) ≡ int_max a b -ℤ low
max_less a b low = grind (arith, ints)

fold_min_less : (first low : ℤ) (xs : List ℤ) → fold int_min (first -ℤ low) (map (λ e. e -ℤ low) xs) ≡ fold int_min first xs -ℤ low
fold_min_less first low [] = refl
fold_min_less first low (x ∷ xs) = ap (λ a. fold int_min a (map (λ e. e -ℤ low) xs)) (min_less first x low) ∙ fold_min_less (int_min first x) low xs

fold_max_less : (first low : ℤ) (xs : List ℤ) → fold int_max (first -ℤ low) (map (λ e. e -ℤ low) xs) ≡ fold int_max first xs -ℤ low
fold_max_less first low [] = refl
fold_max_less first low (x ∷ xs) = ap (λ a. fold int_max a (map (λ e. e -ℤ low) xs)) (max_less first x low) ∙ fold_max_less (int_max first x) low xs

bounds_less : (low : ℤ) (xs : List ℤ) → 1 ≤ length xs → (least (map (λ e. e -ℤ low) xs) ≡ least xs -ℤ low) × (greatest (map (λ e. e -ℤ low) xs) ≡ greatest xs -ℤ low)
bounds_less low [] some = absurd (omega arith)
bounds_less low (x ∷ xs) some = (fold_min_less x low xs, fold_max_less x low xs)

mapped_alike : {X Y : Type 0} (f h : X → Y) (xs : List X) → All (λ x. f x ≡ h x) xs → map f xs ≡ map h xs
mapped_alike f h [] each = refl
mapped_alike f h (x ∷ xs) each =
    ap₂ (λ y ys. y ∷ ys) (All-head (λ x. f x ≡ h x) x xs each) (mapped_alike f h xs (All-tail (λ x. f x ≡ h x) x xs each))

as_distance : (low e : ℤ) → low ≤ℤ e → pos (unsigned_abs (e -ℤ low)) ≡ e -ℤ low
as_distance low e h = grind (arith, ints)

self_less : (a : ℤ) → a -ℤ a ≡ pos 0
self_less a = grind (arith, ints)

pub far_bounds : (entries : List ℤ) → 1 ≤ length entries
    → (least (map pos (map (λ e. unsigned_abs (e -ℤ least entries)) entries)) ≡ pos 0)
    × (greatest (map pos (map (λ e. unsigned_abs (e -ℤ least entries)) entries)) ≡ pos (unsigned_abs (greatest entries -ℤ least entries)))
far_bounds entries some =
    let low : ℤ = least entries in
    let same : map pos (map (λ e. unsigned_abs (e -ℤ low)) entries) ≡ map (λ e. e -ℤ low) entries =
    map-map pos (λ e. unsigned_abs (e -ℤ low)) entries
    ∙ mapped_alike (λ e. pos (unsigned_abs (e -ℤ low))) (λ e. e -ℤ low) entries (λ k d i. as_distance low (get_or entries k d) (least_below entries k d i)) in
    let bounds = bounds_less low entries some in (
      ap least same ∙ bounds.0 ∙ self_less low,
      ap greatest same ∙ bounds.1 ∙ sym (as_distance low (greatest entries) (in_order entries some)),
    )

natural_is : (width : ℕ) (z : ℤ) → pos 0 ≤ℤ z → pos (residue width z) ≡ z
natural_is width (pos n) h = refl
natural_is width (negsuc n) h = absurd (omega (arith, ints))

-- where no entry is negative the residues are the entries
pub naturals_are : (width : ℕ) (entries : List ℤ) → pos 0 ≤ℤ least entries → map pos (map (residue width) entries) ≡ entries
naturals_are width entries h =
    map-map pos (residue width) entries
    ∙ mapped_alike (λ e. pos (residue width e)) (λ e. e) entries
    (λ k d i. natural_is width (get_or entries k d) (le_both (least entries) (get_or entries k d) h (least_below entries k d i)))
    ∙ map-id entries
  where
    le_both : (a b : ℤ) → pos 0 ≤ℤ a → a ≤ℤ b → pos 0 ≤ℤ b
    le_both a b h k = omega (arith, ints)

-- ---- the answer of narrow numbers

pub narrow_told : (b : Bool) (body : List ℕ) (count width low high low_byte high_byte : ℕ) → width ≡ 1 → low_byte ≡ low → high_byte ≡ high
    → ((entries : List ℤ) → length entries ≡ count → All (IsNumber 1 false) entries → least entries ≡ pos low_byte → greatest entries ≡ pos high_byte
    → SpellsBytes body (map (residue 1) entries) → (IsTrue b ↔ (body ≡ byte_text entries)))
    → (numbers : List ℕ) → length numbers ≡ count → All (λ n. n < 256 ^ width) numbers
    → (width ≡ 1 → (least (map pos numbers) ≡ pos low) × (greatest (map pos numbers) ≡ pos high)) → SpellsNarrow width body numbers
    → (IsTrue b ↔ (body ≡ narrow_text width numbers))
narrow_told b body count width low high low_byte high_byte one is_low is_high told numbers size below bounds spelled =
    let eq : eqb width 1 ≡ true = eq-eqb width 1 one in
    let text : narrow_text width numbers ≡ byte_text (map pos numbers) = cond-true (eqb width 1) (byte_text (map pos numbers)) (raw_text width numbers) eq in
    let bytes : SpellsBytes body numbers = subst (λ e. MatchBool e (SpellsBytes body numbers) (SpellsRaw width body numbers)) eq spelled in
    let small : All (λ n. n < 256) numbers = subst (λ w. All (λ n. n < 256 ^ w) numbers) one below in
    let back : map (residue 1) (map pos numbers) ≡ numbers = map-map (residue 1) pos numbers ∙ map-id numbers in
    let found = bounds one in
    rw text
    (told (map pos numbers) (length-map numbers pos ∙ size) (All-map (IsNumber 1 false) pos numbers small) (found.0 ∙ ap pos (sym is_low)) (found.1 ∙ ap pos (sym is_high))
    (rw back bytes))

abbrev wider : ℕ → ℕ
wider n = cond (ltb n (256 ^ 2)) 2 (cond (ltb n (256 ^ 4)) 4 (cond (ltb n (256 ^ 8)) 8 16))

wider_at_least : (n : ℕ) → 2 ≤ wider n
wider_at_least n =
    cond_both (ltb n (256 ^ 2)) 2 _ (λ w. 2 ≤ w) (λ e. omega arith) (λ e.
    cond_both (ltb n (256 ^ 4)) 4 _ (λ w. 2 ≤ w) (λ e. omega arith) (λ e.
    cond_both (ltb n (256 ^ 8)) 8 16 (λ w. 2 ≤ w) (λ e. omega arith) (λ e. omega arith)))

width_for_one : (n : ℕ) → width_for n ≡ 1 → n < 256
width_for_one n one =
    ⊎_elim (λ low. low)
    (λ high.
    let same : width_for n ≡ wider n = cond-false (ltb n (256 ^ 1)) 1 (wider n) (le-ltb n (256 ^ 1) high) in
    let wide = wider_at_least n in
    absurd (omega arith))
    (cases_lt n 256)

pub far_fits : (low high : ℤ) → shifted_width low high ≡ 1 → unsigned_abs (high -ℤ low) < 256
far_fits low high one = width_for_one (unsigned_abs (high -ℤ low)) one

-- entries of more than one byte whose narrow numbers are of one byte as they stand are none of them negative
pub plain_natural : (width : ℕ) (low high : ℤ) → 2 ≤ width → plain_width width low high ≡ 1 → (pos 0 ≤ℤ low) × (unsigned_abs high < 256)
plain_natural width low high wide one =
    ⊎_elim
    (λ negative. absurd (too_wide (sym (cond-true _ _ _ negative) ∙ one)))
    (λ natural. (not_negative low natural, width_for_one (unsigned_abs high) (sym (cond-false _ _ _ natural) ∙ one)))
    (cases_Bool (int_lt low (pos 0)))
  where
    too_wide : width ≡ 1 → ⊥
    too_wide e = omega arith

pub residues_in_order : (width : ℕ) (low high : ℤ) → pos 0 ≤ℤ low → low ≤ℤ high → unsigned_abs high < 256 → (residue width low ≤ residue width high) × (residue width high < 256)
residues_in_order width (pos a) (pos b) h k small = (omega (arith, ints), omega (arith, ints))
residues_in_order width (pos a) (negsuc b) h k small = absurd (omega (arith, ints))
residues_in_order width (negsuc a) high h k small = absurd (omega (arith, ints))

-- ---- the answer of a column

bare_form_of : (width count : ℕ) → (width ≡ 1 → ⊥) → (eqb count 0 || (eqb width 2 && eqb count 1)) ≡ true → int_form width count ≡ bare_form
bare_form_of width count wide bare = cond-false (eqb width 1) bytes_form _ (ne_eqb width 1 wide) ∙ cond-true _ _ _ bare

tagged_form_of : (width count : ℕ) → (width ≡ 1 → ⊥) → (eqb count 0 || (eqb width 2 && eqb count 1)) ≡ false → int_form width count ≡ tagged_form
tagged_form_of width count wide more = cond-false (eqb width 1) bytes_form _ (ne_eqb width 1 wide) ∙ cond-false _ _ _ more

pub bare_told : (width : ℕ) (entries : List ℤ) (packed : List ℕ) → 2 ≤ width → (eqb (length entries) 0 || (eqb width 2 && eqb (length entries) 1)) ≡ true
    → SpellsInts width packed (map (residue width) entries) → packed ≡ int_text width entries
bare_told width entries packed wide bare spelled =
    let not_one : width ≡ 1 → ⊥ = λ e. absurd (omega arith) in
    let residues = map (residue width) entries in
    let form : int_form width (length residues) ≡ bare_form = ap (int_form width) (length-map entries (residue width)) ∙ bare_form_of width (length entries) not_one bare in
    let raw : SpellsRaw width packed residues = subst (λ f. SpellsIntsAs f width packed residues) form spelled in
    raw.whole ∙ sym (int_text_bare width entries not_one bare)

module _ (width : ℕ) (signed : Bool) (is_width : IsWidth width) (wide : 2 ≤ width) (entries : List ℤ) (numbers : All (IsNumber width signed) entries) (packed : List ℕ)
    (more : (eqb (length entries) 0 || (eqb width 2 && eqb (length entries) 1)) ≡ false) (spelled : SpellsInts width packed (map (residue width) entries)) where
  not_one : width ≡ 1 → ⊥
  not_one e = omega arith

  some : 1 ≤ length entries
  some = ⊎_elim (λ none. absurd (true≢false (sym (ap (λ n. eqb n 0 || (eqb width 2 && eqb n 1)) none) ∙ more))) (λ h. h) (none_or_some (length entries))
    where
      none_or_some : (n : ℕ) → (n ≡ 0) ⊎ (1 ≤ n)
      none_or_some n = ⊎_elim (λ h. inl (omega arith)) (λ h. inr h) (cases_lt n 1)

  tagged : SpellsTagged width (highest_int_tag width) (SpellsAtIntLevel width) packed (map (residue width) entries)
  unfolding not_one
  tagged =
      let residues = map (residue width) entries in
      let form : int_form width (length residues) ≡ tagged_form = ap (int_form width) (length-map entries (residue width)) ∙ tagged_form_of width (length entries) not_one more in
      subst (λ f. SpellsIntsAs f width packed residues) form spelled

  -- the column's header, and the numbers behind it
  plain_narrow : ℕ
  plain_narrow = plain_width width (least entries) (greatest entries)

  shifted_narrow : ℕ
  shifted_narrow = shifted_width (least entries) (greatest entries)

  all_entries : Entries width signed entries
  all_entries = record { is_width = is_width; some = some; numbers = numbers }

  far_numbers : ℕ → ℕ → List ℕ
  far_numbers low narrow = map (λ e. above width low e % 256 ^ narrow) entries

  abbrev Told : Bool → List ℕ → ℕ → ℕ → ℕ → Type 0
  Told b body narrow low high = (ns : List ℕ) → length ns ≡ length entries → All (λ n. n < 256 ^ narrow) ns
      → (narrow ≡ 1 → (least (map pos ns) ≡ pos low) × (greatest (map pos ns) ≡ pos high)) → SpellsNarrow narrow body ns
      → (IsTrue b ↔ (body ≡ narrow_text narrow ns))

  plain_header : (5 < length entries → shifted_narrow < plain_narrow → ⊥)
      → int_text width entries ≡ 2 * (halvings width - halvings plain_narrow) ∷ narrow_text plain_narrow (far_numbers 0 plain_narrow)
  unfolding plain_narrow shifted_narrow far_numbers
  plain_header stays = int_text_tagged width entries not_one more ∙ plain_text_is width signed entries is_width some numbers stays

  shifted_header : 5 < length entries → shifted_narrow < plain_narrow
      → int_text width entries ≡ (2 * (halvings width - halvings shifted_narrow) - 1) ∷ (number_bytes width (residue width (least entries))
      ++ narrow_text shifted_narrow (far_numbers (residue width (least entries)) shifted_narrow))
  unfolding plain_narrow shifted_narrow far_numbers
  shifted_header many smaller = int_text_tagged width entries not_one more ∙ shifted_text_is width signed entries is_width some numbers many smaller

  low_small : residue width (least entries) < 256 ^ width
  low_small = residue_below width signed (least entries) (least_among (IsNumber width signed) entries some numbers)

  pub plain_none : (narrow tag : ℕ) → narrow ≡ plain_width width (least entries) (greatest entries)
      → (5 < length entries → shifted_width (least entries) (greatest entries) < plain_width width (least entries) (greatest entries) → ⊥)
      → tag ≡ 2 * (halvings width - halvings narrow) → ((body : List ℕ) → packed ≡ tag ∷ body → ⊥) → packed ≡ int_text width entries → IsTrue false
  unfolding plain_narrow shifted_narrow
  plain_none narrow tag is stays is_tag none same =
      absurd (none _ (same ∙ plain_header stays ∙ ap (λ t. t ∷ narrow_text plain_narrow (far_numbers 0 plain_narrow)) (sym (is_tag ∙ ap (λ n. 2 * (halvings width - halvings n)) is))))

  pub shifted_none : (narrow tag : ℕ) → narrow ≡ shifted_width (least entries) (greatest entries) → 5 < length entries
      → shifted_width (least entries) (greatest entries) < plain_width width (least entries) (greatest entries)
      → tag ≡ 2 * (halvings width - halvings narrow) - 1 → ((body : List ℕ) → packed ≡ tag ∷ (number_bytes width (residue width (least entries)) ++ body) → ⊥)
      → packed ≡ int_text width entries → IsTrue false
  unfolding plain_narrow shifted_narrow
  shifted_none narrow tag is many smaller is_tag none same =
      absurd (none _ (same ∙ shifted_header many smaller ∙ ap (λ t. t ∷ (number_bytes width (residue width (least entries))
      ++ narrow_text shifted_narrow (far_numbers (residue width (least entries)) shifted_narrow))) (sym (is_tag ∙ ap (λ n. 2 * (halvings width - halvings n) - 1) is))))

  behind_below : (front body : List ℕ) → All (λ b. b < 256) packed → packed ≡ front ++ body → All (λ b. b < 256) body
  behind_below front body below whole =
      subst (All (λ b. b < 256)) (ap (drop (length front)) whole ∙ drop-append_seam front body) (All-drop (λ b. b < 256) (length front) packed below)

  far_below : (low narrow : ℕ) → All (λ n. n < 256 ^ narrow) (map (λ e. above width low e % 256 ^ narrow) entries)
  far_below low narrow =
      let some_values : 1 ≤ 256 ^ narrow = pow-le-pow_right {n = 256} (omega arith) {i = 0} {j = narrow} (omega arith) in
      All-map (λ n. n < 256 ^ narrow) (λ e. above width low e % 256 ^ narrow) entries (λ k d i. mod-lt (above width low (get_or entries k d)) {m = 256 ^ narrow} some_values)

  pub plain_told : (narrow tag : ℕ) (body : List ℕ) (b : Bool) → narrow ≡ plain_width width (least entries) (greatest entries)
      → (5 < length entries → shifted_width (least entries) (greatest entries) < plain_width width (least entries) (greatest entries) → ⊥)
      → tag ≡ 2 * (halvings width - halvings narrow) → packed ≡ tag ∷ body → All (λ b. b < 256) packed
      → Told b body narrow (residue width (least entries)) (residue width (greatest entries)) → (IsTrue b ↔ (packed ≡ int_text width entries))
  unfolding plain_narrow shifted_narrow far_numbers
  plain_told narrow tag body b is stays is_tag whole below told =
      let fits = plain_fits width signed entries all_entries in
      let is_narrow : IsWidth narrow = subst IsWidth (sym is) fits.0 in
      let within : narrow ≤ width = omega arith in
      let ns = map (λ e. above width 0 e % 256 ^ narrow) entries in
      let header : int_text width entries ≡ tag ∷ narrow_text narrow ns =
      plain_header stays ∙ ap (λ n. 2 * (halvings width - halvings n) ∷ narrow_text n (map (λ e. above width 0 e % 256 ^ n) entries)) (sym is)
      ∙ ap (λ t. t ∷ narrow_text narrow ns) (sym is_tag) in
      let residues : ns ≡ map (residue width) entries =
      ap (λ n. map (λ e. above width 0 e % 256 ^ n) entries) is ∙ sym (plain_numbers width signed entries all_entries) in
      let answer = told ns (length-map entries (λ e. above width 0 e % 256 ^ narrow)) (far_below 0 narrow)
      (λ one.
      let natural = plain_natural width (least entries) (greatest entries) wide (sym is ∙ one) in
      let same : map pos ns ≡ entries = ap (map pos) residues ∙ naturals_are width entries natural.0 in
      (ap least same ∙ sym (natural_is width (least entries) natural.0), ap greatest same ∙ sym (natural_is width (greatest entries) (le_both (least entries) (greatest entries) natural.0 (in_order entries some)))))
      (plain_behind width signed is_width entries numbers packed tagged narrow tag body is_narrow within is_tag whole (behind_below (tag ∷ []) body below whole)) in
      (λ t. whole ∙ ap (λ x. tag ∷ x) (answer.0 t) ∙ sym header, λ same. answer.1 (let e : tag ∷ body ≡ tag ∷ narrow_text narrow ns = sym whole ∙ same ∙ header in cc e))
    where
      le_both : (a b : ℤ) → pos 0 ≤ℤ a → a ≤ℤ b → pos 0 ≤ℤ b
      le_both a b h k = omega (arith, ints)

  pub shifted_told : (narrow tag : ℕ) (body : List ℕ) (b : Bool) → narrow ≡ shifted_width (least entries) (greatest entries) → 5 < length entries
      → shifted_width (least entries) (greatest entries) < plain_width width (least entries) (greatest entries)
      → tag ≡ 2 * (halvings width - halvings narrow) - 1 → packed ≡ tag ∷ (number_bytes width (residue width (least entries)) ++ body) → All (λ b. b < 256) packed
      → Told b body narrow 0 (unsigned_abs (greatest entries -ℤ least entries)) → (IsTrue b ↔ (packed ≡ int_text width entries))
  unfolding plain_narrow shifted_narrow far_numbers
  shifted_told narrow tag body b is many smaller is_tag whole below told =
      let low = residue width (least entries) in
      let fits = shifted_fits width signed entries all_entries in
      let plain_fit = plain_fits width signed entries all_entries in
      let is_narrow : IsWidth narrow = subst IsWidth (sym is) fits.0 in
      let within : narrow ≤ width = omega arith in
      let narrower : narrow < width = omega arith in
      let ns = map (λ e. above width low e % 256 ^ narrow) entries in
      let header : int_text width entries ≡ tag ∷ (number_bytes width low ++ narrow_text narrow ns) =
      shifted_header many smaller
      ∙ ap (λ n. (2 * (halvings width - halvings n) - 1) ∷ (number_bytes width low ++ narrow_text n (map (λ e. above width low e % 256 ^ n) entries))) (sym is)
      ∙ ap (λ t. t ∷ (number_bytes width low ++ narrow_text narrow ns)) (sym is_tag) in
      let far : ns ≡ map (λ e. unsigned_abs (e -ℤ least entries)) entries =
      ap (λ n. map (λ e. above width low e % 256 ^ n) entries) is ∙ sym (shifted_numbers width signed entries all_entries) in
      let bounds = far_bounds entries some in
      let steps : 1 ≤ halvings width - halvings narrow = halved narrow is_narrow narrower in
      let answer = told ns (length-map entries (λ e. above width low e % 256 ^ narrow)) (far_below low narrow)
      (λ one. (ap least (ap (map pos) far) ∙ bounds.0, ap greatest (ap (map pos) far) ∙ bounds.1))
      (shifted_behind width signed is_width entries numbers packed tagged narrow tag low body is_narrow within steps is_tag low_small whole
      (behind_below (tag ∷ number_bytes width low) body below whole)) in (
        λ t. whole ∙ ap (λ x. tag ∷ (number_bytes width low ++ x)) (answer.0 t) ∙ sym header,
        λ same. answer.1 (append_cancel_left (number_bytes width low) body (narrow_text narrow ns)
            (let e : tag ∷ (number_bytes width low ++ body) ≡ tag ∷ (number_bytes width low ++ narrow_text narrow ns) = sym whole ∙ same ∙ header in cc e)),
      )
    where
      halved : (narrow : ℕ) → IsWidth narrow → narrow < width → 1 ≤ halvings width - halvings narrow
      halved narrow is_narrow less =
          let order : halvings narrow ≤ halvings width = halvings_order narrow width is_narrow is_width (omega arith) in
          ⊎_elim
          (λ none.
          let same : halvings narrow ≡ halvings width = omega arith in
          let equal : narrow ≡ width = sym (halvings_exact narrow is_narrow) ∙ ap (λ h. 2 ^ h) same ∙ halvings_exact width is_width in
          absurd (omega arith))
          (λ h. h)
          (cases_lt (halvings width - halvings narrow) 1)

pub shift_true : (count shifted plain : ℕ) → (ltb 5 count && ltb shifted plain) ≡ true → (5 < count) × (shifted < plain)
shift_true count shifted plain e = let parts = and_parts (ltb 5 count) (ltb shifted plain) e in (ltb-true 5 count parts.0, ltb-true shifted plain parts.1)

pub shift_false : (count shifted plain : ℕ) → (ltb 5 count && ltb shifted plain) ≡ false → 5 < count → shifted < plain → ⊥
shift_false count shifted plain e many smaller = true≢false (sym (both_true (lt-ltb 5 count many) (lt-ltb shifted plain smaller)) ∙ e)

-- ---- entries by their residues

module _ {Entry : Type 0} (residue_at : Entry → ℕ) (width : ℕ) (signed : Bool) where
  pub int_residues_back : (entries : List Entry) → All (λ n. n < 256 ^ width) (map residue_at entries)
      → map (residue width) (map (λ e. number_of width signed (residue_at e)) entries) ≡ map residue_at entries
  int_residues_back entries below =
      map-map (residue width) (λ e. number_of width signed (residue_at e)) entries
      ∙ mapped_alike (λ e. residue width (number_of width signed (residue_at e))) residue_at entries
      (λ k d i. residue-number_of width signed (residue_at (get_or entries k d)) (at_entry entries below k d i))
    where
      at_entry : (entries : List Entry) → All (λ n. n < 256 ^ width) (map residue_at entries) → (k : ℕ) (d : Entry) → k < length entries
          → residue_at (get_or entries k d) < 256 ^ width
      at_entry entries below k d i = subst (λ n. n < 256 ^ width) (get_or-map residue_at entries k d 0 i) (below k 0 (omega (arith, length-map entries residue_at)))

  pub int_numbers_are : IsWidth width → (entries : List Entry) → All (λ n. n < 256 ^ width) (map residue_at entries)
      → All (IsNumber width signed) (map (λ e. number_of width signed (residue_at e)) entries)
  int_numbers_are is_width entries below =
      All-map (IsNumber width signed) (λ e. number_of width signed (residue_at e)) entries
      (λ k d i. IsNumber-number_of width signed (residue_at (get_or entries k d)) (some_width width is_width)
      (subst (λ n. n < 256 ^ width) (get_or-map residue_at entries k d 0 i) (below k 0 (omega (arith, length-map entries residue_at)))))

  pub none_told : 2 ≤ width → (entries : List Entry) → length entries ≤ 0 → (packed : List ℕ) → SpellsInts width packed (map residue_at entries)
      → packed ≡ int_text width (map (λ e. number_of width signed (residue_at e)) entries)
  none_told wide [] none packed spelled = bare_told width [] packed wide refl spelled
  none_told wide (e ∷ entries) none packed spelled = absurd (omega arith)
