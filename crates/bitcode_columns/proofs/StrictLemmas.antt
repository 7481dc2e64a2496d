-- Bytes that spell digits, with nothing above them, are the text of the digits.
use Rattle.std.proofs.Common.{◌⊎◌, inl, inr, ℤ, pos, ◌≡◌, ℕ, suc, ◌+◌, ◌-◌, ◌*◌, ◌/◌, ◌%◌, ◌^◌, ◌<◌, ◌≤◌, Bool, true, false, MatchBool, IsTrue, List, [], ◌∷◌, ◌++◌, length, take, drop, get_or, map, All, arith, ap, refl, sym, ◌∙◌, subst, ⊎_elim}
use Rattle.std.specs.Prelude.{◌↔◌, ◌-ℤ◌, unsigned_abs}
use Rattle.std.specs.Int.{div_ceil}
use Rattle.std.proofs.Math.Nat.{pow-zero, pow-succ', div-one, div-div-eq-div-mul, pow-le-pow_right, mod-lt, add-mul-div_left, add-mul-mod_self_left, div-eq_of_lt, mod-eq_of_lt, div-mul-le_self, mul-le-mul_right}
use Rattle.std.proofs.lemmas.Bool.{cases_lt, false≢true}
use Rattle.std.proofs.lemmas.Nat.{div_below, div-add-mod'}
use Rattle.std.proofs.lemmas.Grind.{same_number_lists}
use Rattle.std.proofs.lemmas.List.{length-take, length-drop, get_or-take, get_or-drop, get_or-map, get_or_default, length-map, nil_from_length, append_cancel_right}
use Rattle.std.proofs.lemmas.List.FromFn.{get_or-map-range_with_len}
use Rattle.std.proofs.lemmas.List.Elements.{All-map, All-take, All-drop}
use Rattle.std.proofs.lemmas.Simd.{map-map}
use Rattle.bitcode_columns.specs.declared.pack.Base.{Base}
use Rattle.bitcode_columns.specs.declared.pack.Base.TheVariants.{Whole, Sixteen, Six, Four, Three, Two}
use Rattle.bitcode_columns.specs.ByteColumn.{level_of_base, base_at_level, highest_byte_tag, SpellsAtByteLevel, SpellsBytes, byte_text}
use Rattle.bitcode_columns.specs.Digits.{radix, digits_in_byte, base_for, digit, number_with_digits, SpellsDigits, digits_text}
use Rattle.bitcode_memory.specs.Ints.{IsNumber, residue, number_of, least, greatest}
use Rattle.bitcode_memory.specs.LittleEndian.{little_endian}
use Rattle.bitcode_columns.specs.Tagged.{level_of_tag, SpellsTagged}
use Rattle.bitcode_columns.specs.WrittenDigits.{UsesNoMore, IsPacked}
use Rattle.bitcode_columns.proofs.BytePackingLemmas.{distance, base_at_level_of, plain_base_of, byte_text-bare, byte_text-plain, byte_text-shifted}
use Rattle.bitcode_memory.proofs.IntLemmas.{residue_below, residue-number_of, IsNumber-number_of, least_below}
use Rattle.bitcode_columns.proofs.TaggedLemmas.{least_among}
use Rattle.bitcode_columns.proofs.VariantColumnLemmas.{entries_are_digits}
use Rattle.bitcode_columns.proofs.DigitLemmas.{some_digits, number_with_digits_below, size-digits_text}

-- an answer that tells whether A holds tells whether B does
pub judge : {A B : Type 0} (b : Bool) → MatchBool b A (A → ⊥) → (A ↔ B) → (IsTrue b ↔ B)
judge true h both = (λ t. both.0 h, λ k. refl)
judge false h both = (λ t. absurd (false≢true t), λ k. absurd (h (both.1 k)))

powers_fit : (base : Base) → radix base ^ digits_in_byte base ≤ 256
powers_fit Whole = omega arith
powers_fit Sixteen = omega arith
powers_fit Six = omega arith
powers_fit Four = omega arith
powers_fit Three = omega arith
powers_fit Two = omega arith

pub power_fits : (base : Base) (digits : ℕ) → digits < digits_in_byte base → radix base ^ digits * radix base ≤ 256
power_fits base digits h =
    omega (arith, pow-succ' (radix base) digits, powers_fit base, pow-le-pow_right {n = radix base} (some_digits base).2 {i = suc digits} {j = digits_in_byte base} (omega arith))

-- a number of no more than these digits is the number with these digits
number_of_digits : (base n : ℕ) (group : List ℕ) → 1 ≤ base → n < base ^ length group
    → ((place : ℕ) → place < length group → get_or group place 0 ≡ digit base n place) → number_with_digits base group ≡ n
number_of_digits base n [] some h each = omega (arith, pow-zero base)
number_of_digits base n (d ∷ group) some h each =
    let first : d ≡ n % base = each 0 (omega arith) ∙ ap (λ m. m % base) (ap (λ p. n / p) (pow-zero base) ∙ div-one n) in
    let later : number_with_digits base group ≡ n / base
    = number_of_digits base (n / base) group some (div_below n base (base ^ length group) some (omega (arith, pow-succ' base (length group))))
    (λ place inside. each (suc place) (omega arith) ∙ ap (λ m. m % base) (ap (λ p. n / p) (pow-succ' base place) ∙ sym (div-div-eq-div-mul n base (base ^ place)))) in
    ap (λ x. x + base * number_with_digits base group) first ∙ ap (λ m. n % base + base * m) later ∙ omega (arith, div-add-mod' n base)

digits_text_at : (base : Base) (entries : List ℕ) (byte : ℕ) → byte < div_ceil (length entries) (digits_in_byte base)
    → get_or (digits_text base entries) byte 0 ≡ number_with_digits (radix base) (take (digits_in_byte base) (drop (byte * digits_in_byte base) entries))
unfolding digits_text
digits_text_at base entries byte h =
    get_or-map-range_with_len (λ b. number_with_digits (radix base) (take (digits_in_byte base) (drop (b * digits_in_byte base) entries)))
    0 (div_ceil (length entries) (digits_in_byte base)) byte byte 0 h (omega arith)

row_of : (row few place : ℕ) → place < few → (row * few + place) / few ≡ row
row_of row few place low =
    ap (λ n. n / few) {x = row * few + place} {y = place + few * row} (omega arith) ∙ add-mul-div_left place row (omega arith) ∙ ap (λ n. n + row) (div-eq_of_lt low) ∙ omega arith

column_of : (row few place : ℕ) → place < few → (row * few + place) % few ≡ place
column_of row few place low =
    ap (λ n. n % few) {x = row * few + place} {y = place + few * row} (omega arith) ∙ add-mul-mod_self_left place few row ∙ mod-eq_of_lt low

rows_below : (row few count : ℕ) → 1 ≤ few → row < count / few → row * few + few ≤ count
rows_below row few count some h = omega (arith, div-mul-le_self count few, mul-le-mul_right few h)

-- at most one byte is behind the whole ones
one_more : (count few : ℕ) → div_ceil count few ≤ count / few + 1
one_more count few = omega arith

module _ (base : Base) (bytes digits : List ℕ) (spelled : SpellsDigits base bytes digits) where
  -- the digits of a byte
  group : ℕ → List ℕ
  group byte = take (digits_in_byte base) (drop (byte * digits_in_byte base) digits)

  group_digits : (byte place : ℕ) → place < length (group byte) → get_or (group byte) place 0 ≡ digit (radix base) (get_or bytes byte 0) place
  unfolding group
  group_digits byte place inside =
      let few = digits_in_byte base in
      let low : place < few = omega (arith, length-take few (drop (byte * few) digits)) in
      let within : byte * few + place < length digits = omega (arith, length-take few (drop (byte * few) digits), length-drop (byte * few) digits) in
      let row : (byte * few + place) / few ≡ byte = row_of byte few place low in
      let column : (byte * few + place) % few ≡ place = column_of byte few place low in
      get_or-take few (drop (byte * few) digits) place 0 low
      ∙ get_or-drop (byte * few) digits place 0
      ∙ spelled.each (byte * few + place) within
      ∙ ap (λ i. digit (radix base) (get_or bytes i 0) ((byte * few + place) % few)) row
      ∙ ap (digit (radix base) (get_or bytes byte 0)) column

  -- a byte with nothing above its digits is the number with these
  byte_is : (byte : ℕ) → get_or bytes byte 0 < radix base ^ length (group byte) → number_with_digits (radix base) (group byte) ≡ get_or bytes byte 0
  byte_is byte h = number_of_digits (radix base) (get_or bytes byte 0) (group byte) (some_digits base).2 h (group_digits byte)

  size_whole : (byte : ℕ) → byte < length digits / digits_in_byte base → length (group byte) ≡ digits_in_byte base
  unfolding group
  size_whole byte h =
      let few = digits_in_byte base in
      omega (arith, length-take few (drop (byte * few) digits), length-drop (byte * few) digits, rows_below byte few (length digits) (some_digits base).0 h)

  size_last : (byte : ℕ) → byte ≡ length digits / digits_in_byte base → length (group byte) ≡ length digits % digits_in_byte base
  unfolding group
  size_last byte is =
      let few = digits_in_byte base in
      omega (arith, length-take few (drop (byte * few) digits), length-drop (byte * few) digits, ap (λ b. b * few) is, div-add-mod' (length digits) few, mod-lt (length digits) (some_digits base).0)

  size_of_bytes : length bytes ≡ div_ceil (length digits) (digits_in_byte base)
  size_of_bytes = spelled.size

  each_byte : UsesNoMore base (length digits) bytes → (byte : ℕ) → byte < length bytes → get_or bytes byte 0 < radix base ^ length (group byte)
  each_byte none byte inside =
      let whole = length digits / digits_in_byte base in
      ⊎_elim
      (λ before.
      let within : byte < length (take whole bytes) = omega (arith, length-take whole bytes) in
      let low = none.whole byte 0 within in
      rw (size_whole byte before) (subst (λ n. n < radix base ^ digits_in_byte base) (get_or-take whole bytes byte 0 before) low))
      (λ behind.
      let at : byte ≡ whole = omega (arith, spelled.size, one_more (length digits) (digits_in_byte base)) in
      let within : byte - whole < length (drop whole bytes) = omega (arith, length-drop whole bytes) in
      let place : whole + (byte - whole) ≡ byte = omega arith in
      let low = none.last (byte - whole) 0 within in
      rw (size_last byte at) (subst (λ n. n < radix base ^ (length digits % digits_in_byte base)) (get_or-drop whole bytes (byte - whole) 0 ∙ ap (λ i. get_or bytes i 0) place) low))
      (cases_lt byte whole)

  text_is : UsesNoMore base (length digits) bytes → bytes ≡ digits_text base digits
  unfolding group
  text_is none =
      same_number_lists bytes (digits_text base digits) (spelled.size ∙ sym (size-digits_text base digits))
      (λ byte inside. sym (digits_text_at base digits byte (omega (arith, spelled.size)) ∙ byte_is byte (each_byte none byte inside)))

  -- the digits that were read are below the radix
  digits_below : All (λ d. d < radix base) digits
  digits_below = entries_are_digits base bytes digits spelled

  group_below : (byte : ℕ) → All (λ d. d < radix base) (group byte)
  unfolding group
  group_below byte =
      All-take (λ d. d < radix base) (digits_in_byte base) (drop (byte * digits_in_byte base) digits)
      (All-drop (λ d. d < radix base) (byte * digits_in_byte base) digits digits_below)

  text_byte : bytes ≡ digits_text base digits → (byte : ℕ) → byte < length bytes → get_or bytes byte 0 < radix base ^ length (group byte)
  unfolding group
  text_byte is byte inside =
      subst (λ n. n < radix base ^ length (take (digits_in_byte base) (drop (byte * digits_in_byte base) digits)))
      (sym (ap (λ bs. get_or bs byte 0) is ∙ digits_text_at base digits byte (omega (arith, spelled.size))))
      (number_with_digits_below (radix base) (take (digits_in_byte base) (drop (byte * digits_in_byte base) digits)) (group_below byte))

  no_more : bytes ≡ digits_text base digits → UsesNoMore base (length digits) bytes
  no_more is =
      let whole = length digits / digits_in_byte base in
      record {
        whole = λ byte d inside.
            let before : byte < whole = omega (arith, length-take whole bytes) in
            let within : byte < length bytes = omega (arith, length-take whole bytes) in
            let low = text_byte is byte within in
            subst (λ n. n < radix base ^ digits_in_byte base)
            (sym (get_or-take whole bytes byte d before ∙ get_or_default bytes byte d 0 within))
            (subst (λ n. get_or bytes byte 0 < radix base ^ n) (size_whole byte before) low);
        last = λ k d inside.
            let within : whole + k < length bytes = omega (arith, length-drop whole bytes) in
            let at : whole + k ≡ whole = omega (arith, spelled.size, one_more (length digits) (digits_in_byte base)) in
            let low = text_byte is (whole + k) within in
            subst (λ n. n < radix base ^ (length digits % digits_in_byte base))
            (sym (get_or-drop whole bytes k d ∙ get_or_default bytes (whole + k) d 0 within))
            (subst (λ n. get_or bytes (whole + k) 0 < radix base ^ n) (size_last (whole + k) at) low);
      }

  pub text_iff : UsesNoMore base (length digits) bytes ↔ (bytes ≡ digits_text base digits)
  text_iff = (text_is, no_more)

-- what was taken from the front of an input is a text exactly where the input begins with it
pub told_front : (b : Bool) (old new taken piece text : List ℕ) → old ≡ piece ++ new → taken ≡ piece → (IsTrue b ↔ (taken ≡ text)) → (IsTrue b ↔ (old ≡ text ++ new))
told_front b old new taken piece text whole is told = (
  λ t. whole ∙ ap (λ front. front ++ new) (sym is ∙ told.0 t),
  λ same. told.1 (is ∙ append_cancel_right piece text new (sym whole ∙ same)),
)

-- ---- byte columns

-- the number that a byte stands for, less the least one
narrow_found : (low n e : ℕ) → low < 256 → n < 256 → (n + low) % 256 ≡ e → (e + (256 - low)) % 256 ≡ n
narrow_found low n e h k is = omega arith

radix_fits : (base : Base) → radix base ≤ 256
radix_fits Whole = omega arith
radix_fits Sixteen = omega arith
radix_fits Six = omega arith
radix_fits Four = omega arith
radix_fits Three = omega arith
radix_fits Two = omega arith

level_of_plain_tag : (level tag : ℕ) → tag ≡ 2 * level → (level_of_tag tag ≡ level) × (tag % 2 ≡ 0)
level_of_plain_tag level tag is = omega arith

level_of_shifted_tag : (level tag : ℕ) → 1 ≤ level → tag ≡ 2 * level - 1 → (level_of_tag tag ≡ level) × (tag % 2 ≡ 1)
level_of_shifted_tag level tag some is = omega arith

one_of_one : (xs : List ℕ) (x : ℕ) (rest left : List ℕ) → length xs ≡ 1 → xs ++ rest ≡ x ∷ left → (xs ≡ x ∷ []) × (rest ≡ left)
one_of_one [] x rest left size same = absurd (omega arith)
one_of_one (y ∷ []) x rest left size same = (cc, cc)
one_of_one (y ∷ z ∷ ys) x rest left size same = absurd (omega arith)

none_of_none : (xs rest left : List ℕ) → length xs ≡ 0 → xs ++ rest ≡ left → rest ≡ left
none_of_none [] rest left size same = same
none_of_none (x ∷ xs) rest left size same = absurd (omega arith)

module _ (signed : Bool) (entries : List ℤ) (numbers : All (IsNumber 1 signed) entries) (packed : List ℕ)
    (s : SpellsTagged 1 highest_byte_tag SpellsAtByteLevel packed (map (residue 1) entries)) where
  narrow_size : length s.narrow ≡ length entries
  narrow_size =
      sym (ap length s.widened ∙ length-map s.narrow (λ n. (n + little_endian s.least_bytes) % 256)) ∙ length-map entries (residue 1)

  narrow_below : (k : ℕ) → k < length s.narrow → get_or s.narrow k 0 < 256
  narrow_below k inside =
      omega (arith, entries_are_digits (base_at_level (level_of_tag s.tag)) s.body s.narrow s.narrowed k 0 inside, radix_fits (base_at_level (level_of_tag s.tag)))

  entry_is : (k : ℕ) → k < length entries → (get_or s.narrow k 0 + little_endian s.least_bytes) % 256 ≡ residue 1 (get_or entries k (pos 0))
  entry_is k inside =
      let low = little_endian s.least_bytes in
      sym (get_or-map (λ n. (n + low) % 256) s.narrow k 0 ((0 + low) % 256) (omega (arith, narrow_size)))
      ∙ ap (λ xs. get_or xs k ((0 + low) % 256)) (sym s.widened)
      ∙ get_or-map (residue 1) entries k (pos 0) ((0 + low) % 256) inside

  -- what stands behind a plain tag are the digits of the entries
  pub plain_spelled : (base : Base) (tag : ℕ) (body : List ℕ) → tag ≡ 2 * level_of_base base → packed ≡ tag ∷ body → SpellsDigits base body (map (residue 1) entries)
  plain_spelled base tag body is whole =
      let joined : s.tag ∷ (s.least_bytes ++ s.body) ≡ tag ∷ body = sym s.whole ∙ whole in
      let tags : s.tag ≡ tag = cc joined in
      let behind : s.least_bytes ++ s.body ≡ body = cc joined in
      let of_tag = level_of_plain_tag (level_of_base base) s.tag (tags ∙ is) in
      let none : length s.least_bytes ≡ 0 = s.least_size ∙ omega (arith, of_tag) in
      let bodies : s.body ≡ body = none_of_none s.least_bytes s.body body none behind in
      let bases : base_at_level (level_of_tag s.tag) ≡ base = ap base_at_level of_tag.0 ∙ base_at_level_of base in
      let low : little_endian s.least_bytes ≡ 0 = ap little_endian (nil_from_length s.least_bytes none) in
      let narrow_is : s.narrow ≡ map (residue 1) entries =
      same_number_lists s.narrow (map (residue 1) entries) (narrow_size ∙ sym (length-map entries (residue 1)))
      (λ k inside.
      let within : k < length entries = omega (arith, narrow_size) in
      let here : (get_or s.narrow k 0 + 0) % 256 ≡ residue 1 (get_or entries k (pos 0)) = ap (λ l. (get_or s.narrow k 0 + l) % 256) (sym low) ∙ entry_is k within in
      let small = narrow_below k inside in
      let found : get_or s.narrow k 0 ≡ residue 1 (get_or entries k (pos 0)) = omega arith in
      found ∙ sym (get_or-map (residue 1) entries k (pos 0) 0 within)) in
      subst (λ ds. SpellsDigits base body ds) narrow_is (subst (λ bs. SpellsDigits base bs s.narrow) bodies (subst (λ b. SpellsDigits b s.body s.narrow) bases s.narrowed))

  -- what stands behind a shifted tag and the least entry are the distances of the entries
  pub shifted_spelled : (base : Base) (tag low : ℕ) (body : List ℕ) → 1 ≤ level_of_base base → tag ≡ 2 * level_of_base base - 1 → 0 < length entries
      → low ≡ residue 1 (least entries) → packed ≡ tag ∷ (low ∷ body) → SpellsDigits base body (map (λ e. unsigned_abs (e -ℤ least entries)) entries)
  shifted_spelled base tag low body some is more low_is whole =
      let joined : s.tag ∷ (s.least_bytes ++ s.body) ≡ tag ∷ (low ∷ body) = sym s.whole ∙ whole in
      let tags : s.tag ≡ tag = cc joined in
      let behind : s.least_bytes ++ s.body ≡ low ∷ body = cc joined in
      let of_tag = level_of_shifted_tag (level_of_base base) s.tag some (tags ∙ is) in
      let one : length s.least_bytes ≡ 1 = s.least_size ∙ omega (arith, of_tag) in
      let parts = one_of_one s.least_bytes low s.body body one behind in
      let bases : base_at_level (level_of_tag s.tag) ≡ base = ap base_at_level of_tag.0 ∙ base_at_level_of base in
      let lowest : little_endian s.least_bytes ≡ low = ap little_endian parts.0 ∙ omega arith in
      let in_low : IsNumber 1 signed (least entries) = least_among (IsNumber 1 signed) entries more numbers in
      let low_small : low < 256 = omega (arith, residue_below 1 signed (least entries) in_low) in
      let far : ℤ → ℕ = λ e. unsigned_abs (e -ℤ least entries) in
      let narrow_is : s.narrow ≡ map far entries =
      same_number_lists s.narrow (map far entries) (narrow_size ∙ sym (length-map entries far))
      (λ k inside.
      let within : k < length entries = omega (arith, narrow_size) in
      let z : ℤ = get_or entries k (pos 0) in
      let here : (get_or s.narrow k 0 + low) % 256 ≡ residue 1 z = ap (λ l. (get_or s.narrow k 0 + l) % 256) (sym lowest) ∙ entry_is k within in
      sym (narrow_found low (get_or s.narrow k 0) (residue 1 z) low_small (narrow_below k inside) here)
      ∙ ap (λ l. (residue 1 z + (256 - l)) % 256) low_is
      ∙ distance signed (least entries) z in_low (numbers k (pos 0) within) (least_below entries k (pos 0) within)
      ∙ sym (get_or-map far entries k (pos 0) 0 within)) in
      subst (λ ds. SpellsDigits base body ds) narrow_is (subst (λ bs. SpellsDigits base bs s.narrow) parts.1 (subst (λ b. SpellsDigits b s.body s.narrow) bases s.narrowed))

  -- the bytes are the text exactly where they are packed behind the header of the entries
  pub plain_judged : (plain shifted : Base) → 2 < length entries → plain ≡ plain_base_of (least entries) (greatest entries)
      → shifted ≡ base_for (unsigned_abs (greatest entries -ℤ least entries)) → (length entries ≤ 5) ⊎ (level_of_base shifted ≤ level_of_base plain)
      → IsPacked (2 * level_of_base plain ∷ []) plain (length entries) packed ↔ (packed ≡ byte_text entries)
  plain_judged plain shifted many is_plain is_shifted not =
      let digits = map (residue 1) entries in
      let text = byte_text-plain entries plain shifted many is_plain is_shifted not in
      let size : length digits ≡ length entries = length-map entries (residue 1) in (
        λ p.
            let iff = text_iff plain p.body digits (plain_spelled plain (2 * level_of_base plain) p.body refl p.whole) in
            p.whole ∙ ap (λ b. 2 * level_of_base plain ∷ b) (iff.0 (subst (λ n. UsesNoMore plain n p.body) (sym size) p.only)) ∙ sym text,
        λ same.
            let spelled = plain_spelled plain (2 * level_of_base plain) (digits_text plain digits) refl (same ∙ text) in
            record {
              body = digits_text plain digits;
              whole = same ∙ text;
              size = spelled.size ∙ ap (λ n. div_ceil n (digits_in_byte plain)) size;
              only = subst (λ n. UsesNoMore plain n (digits_text plain digits)) size ((text_iff plain (digits_text plain digits) digits spelled).1 refl);
            },
      )

  pub shifted_judged : (plain shifted : Base) → 5 < length entries → plain ≡ plain_base_of (least entries) (greatest entries)
      → shifted ≡ base_for (unsigned_abs (greatest entries -ℤ least entries)) → level_of_base plain < level_of_base shifted
      → IsPacked ((2 * level_of_base shifted - 1) ∷ (residue 1 (least entries) ∷ [])) shifted (length entries) packed ↔ (packed ≡ byte_text entries)
  shifted_judged plain shifted many is_plain is_shifted smaller =
      let far : ℤ → ℕ = λ e. unsigned_abs (e -ℤ least entries) in
      let digits = map far entries in
      let tag = 2 * level_of_base shifted - 1 in
      let low = residue 1 (least entries) in
      let in_low : IsNumber 1 signed (least entries) = least_among (IsNumber 1 signed) entries (omega arith) numbers in
      let text = byte_text-shifted entries plain shifted many (residue_below 1 signed (least entries) in_low) is_plain is_shifted smaller in
      let size : length digits ≡ length entries = length-map entries far in (
        λ p.
            let iff = text_iff shifted p.body digits (shifted_spelled shifted tag low p.body (omega arith) refl (omega arith) refl p.whole) in
            p.whole ∙ ap (λ b. tag ∷ (low ∷ b)) (iff.0 (subst (λ n. UsesNoMore shifted n p.body) (sym size) p.only)) ∙ sym text,
        λ same.
            let spelled = shifted_spelled shifted tag low (digits_text shifted digits) (omega arith) refl (omega arith) refl (same ∙ text) in
            record {
              body = digits_text shifted digits;
              whole = same ∙ text;
              size = spelled.size ∙ ap (λ n. div_ceil n (digits_in_byte shifted)) size;
              only = subst (λ n. UsesNoMore shifted n (digits_text shifted digits)) size ((text_iff shifted (digits_text shifted digits) digits spelled).1 refl);
            },
      )

-- the bytes of at most two entries are their text
pub bare_judged : (entries : List ℤ) (packed : List ℕ) → length entries ≤ 2 → SpellsBytes packed (map (residue 1) entries) → packed ≡ byte_text entries
bare_judged entries packed few (inl bare) = bare.1 ∙ sym (byte_text-bare entries few)
bare_judged entries packed few (inr tagged) = absurd (omega (arith, tagged.0, length-map entries (residue 1)))

pub tagged_of : (packed entries : List ℕ) → 2 < length entries → SpellsBytes packed entries → SpellsTagged 1 highest_byte_tag SpellsAtByteLevel packed entries
tagged_of packed entries many (inl bare) = absurd (omega (arith, bare.0))
tagged_of packed entries many (inr tagged) = tagged.1

-- bytes as the numbers that they stand for
pub residues_back : (signed : Bool) (bytes : List ℕ) → All (λ b. b < 256) bytes → map (residue 1) (map (number_of 1 signed) bytes) ≡ bytes
residues_back signed bytes below =
    map-map (residue 1) (number_of 1 signed) bytes
    ∙ same_number_lists (map (λ b. residue 1 (number_of 1 signed b)) bytes) bytes (length-map bytes (λ b. residue 1 (number_of 1 signed b)))
    (λ k inside.
    let within : k < length bytes = omega (arith, length-map bytes (λ b. residue 1 (number_of 1 signed b))) in
    get_or-map (λ b. residue 1 (number_of 1 signed b)) bytes k 0 0 within ∙ residue-number_of 1 signed (get_or bytes k 0) (below k 0 within))

pub numbers_are : (signed : Bool) (bytes : List ℕ) → All (λ b. b < 256) bytes → All (IsNumber 1 signed) (map (number_of 1 signed) bytes)
numbers_are signed bytes below =
    All-map (IsNumber 1 signed) (number_of 1 signed) bytes (λ k d i. IsNumber-number_of 1 signed (get_or bytes k d) (omega arith) (below k d i))

module _ (signed : Bool) (entries : List ℤ) (packed : List ℕ) (count : ℕ) (size : length entries ≡ count) (numbers : All (IsNumber 1 signed) entries)
    (spelled : SpellsBytes packed (map (residue 1) entries)) (b : Bool) (plain shifted : Base) (many : 2 < count)
    (is_plain : plain ≡ plain_base_of (least entries) (greatest entries)) (is_shifted : shifted ≡ base_for (unsigned_abs (greatest entries -ℤ least entries))) where
  tagged : SpellsTagged 1 highest_byte_tag SpellsAtByteLevel packed (map (residue 1) entries)
  tagged = tagged_of packed (map (residue 1) entries) (omega (arith, length-map entries (residue 1))) spelled

  pub plain_answer : (length entries ≤ 5) ⊎ (level_of_base shifted ≤ level_of_base plain)
      → MatchBool b (IsPacked (2 * level_of_base plain ∷ []) plain count packed) (IsPacked (2 * level_of_base plain ∷ []) plain count packed → ⊥)
      → (IsTrue b ↔ (packed ≡ byte_text entries))
  plain_answer not told =
      judge b (subst (λ n. MatchBool b (IsPacked (2 * level_of_base plain ∷ []) plain n packed) (IsPacked (2 * level_of_base plain ∷ []) plain n packed → ⊥)) (sym size) told)
      (plain_judged signed entries numbers packed tagged plain shifted (omega arith) is_plain is_shifted not)

  pub shifted_answer : (low : ℕ) → low ≡ residue 1 (least entries) → 5 < count → level_of_base plain < level_of_base shifted
      → MatchBool b (IsPacked ((2 * level_of_base shifted - 1) ∷ (low ∷ [])) shifted count packed) (IsPacked ((2 * level_of_base shifted - 1) ∷ (low ∷ [])) shifted count packed → ⊥)
      → (IsTrue b ↔ (packed ≡ byte_text entries))
  shifted_answer low is more smaller told =
      let P : ℕ → ℕ → Type 0 = λ n l. IsPacked ((2 * level_of_base shifted - 1) ∷ (l ∷ [])) shifted n packed in
      judge b (subst (λ l. MatchBool b (P (length entries) l) (P (length entries) l → ⊥)) is (subst (λ n. MatchBool b (P n low) (P n low → ⊥)) (sym size) told))
      (shifted_judged signed entries numbers packed tagged plain shifted (omega arith) is_plain is_shifted smaller)
