-- Packing and unpacking, a digit at a time.
use Rattle.std.proofs.Common.{◌≡◌, ℕ, zero, suc, ◌+◌, ◌-◌, ◌*◌, ◌/◌, ◌%◌, ◌^◌, ◌<◌, ◌≤◌, List, [], ◌∷◌, ◌++◌, length, map, take, drop, get_or, All, sym, refl, ap, ◌∙◌, length-append, arith}
use Rattle.std.specs.List.{range_with_len}
use Rattle.std.specs.Int.{div_ceil}
use Rattle.std.proofs.Common.{append_assoc, subst}
use Rattle.std.proofs.Math.Nat.{div-div-eq-div-mul, pow-suc, pow-le-pow_right, mod-lt}
use Rattle.std.proofs.Math.Numerals.{add-one}
use Rattle.std.proofs.Math.Nat.{add-zero}
use borrow.Rule.Slice.PartMut.{put_mid}
use Rattle.std.proofs.Math.ListN.{set}
use Rattle.std.proofs.lemmas.Slice.{take-put_mid}
use Rattle.std.proofs.lemmas.List.{map-append}
use Rattle.std.proofs.lemmas.List.{take_more_set, at_drop_more, get_or-map, length-map, map_push, append-nil, length-take, length-drop, take_all, take-map, drop-map, drop-drop}
use Rattle.std.proofs.lemmas.List.Elements.{All-take, All-drop, All-map}
use Rattle.std.proofs.lemmas.List.FromFn.{map-range_with_len_more, length-map-range_with_len, get_or-map-range_with_len}
use Rattle.bitcode_columns.proofs.DigitLemmas.{number_with_digits_below}
use Rattle.std.proofs.lemmas.Nat.{mul-le, div-mul-add, mod-mul-add, div-add-mod', row_fits}
use Rattle.bitcode_columns.specs.declared.pack.Base.{Base}
use Rattle.bitcode_columns.specs.declared.pack.Base.TheVariants.{Whole, Sixteen, Six, Four, Three, Two}
use Rattle.bitcode_columns.specs.Digits.{radix, digits_in_byte, digit, number_with_digits, SpellsDigits, digits_text}

pub radix_at_least : (base : Base) → 2 ≤ radix base
radix_at_least Whole = omega arith
radix_at_least Sixteen = omega arith
radix_at_least Six = omega arith
radix_at_least Four = omega arith
radix_at_least Three = omega arith
radix_at_least Two = omega arith

pub digits_in_byte_at_least : (base : Base) → 1 ≤ digits_in_byte base
digits_in_byte_at_least Whole = omega arith
digits_in_byte_at_least Sixteen = omega arith
digits_in_byte_at_least Six = omega arith
digits_in_byte_at_least Four = omega arith
digits_in_byte_at_least Three = omega arith
digits_in_byte_at_least Two = omega arith

-- the number of the last digits is at most that of all of them
pub number-drop_le : (base : Base) (digits : List ℕ) (place : ℕ)
    → number_with_digits (radix base) (drop place digits) ≤ number_with_digits (radix base) digits
number-drop_le base digits zero = omega arith
number-drop_le base [] (suc place) = omega arith
number-drop_le base (first ∷ digits) (suc place) =
    let rest = number_with_digits (radix base) digits in
    omega (arith, number-drop_le base digits place, mul-le 1 rest (radix base) rest (omega (arith, radix_at_least base)) (omega arith))

-- one digit more, at the front
pub number-drop_less : {X : Type 0} (base : Base) (number : X → ℕ) (digits : List X) (place : ℕ) (first : X)
    → 0 < place → place ≤ length digits → first ≡ get_or digits (place - 1) first
    → number_with_digits (radix base) (drop (place - 1) (map number digits))
    ≡ number first + radix base * number_with_digits (radix base) (drop place (map number digits))
number-drop_less base number digits place first some inside is =
    let below : place - 1 < length digits = omega arith in
    let mapped : place - 1 < length (map number digits) = simp length-map below in
    let next : place - 1 + 1 ≡ place = omega arith in
    let here : get_or (map number digits) (place - 1) 0 ≡ number first = get_or-map number digits (place - 1) first 0 below ∙ ap number (sym is) in
    at_drop_more (number_with_digits (radix base)) (map number digits) (place - 1) 0 mapped ∙ rw (here, next)

pub div-pow_more : (byte radix place : ℕ) → byte / radix ^ place / radix ≡ byte / radix ^ (place + 1)
div-pow_more byte radix place = div-div-eq-div-mul byte (radix ^ place) radix ∙ rw (add-one, pow-suc)

-- one digit more of a byte
pub digits_put : {X : Type 0} (number : X → ℕ) (radix byte place rest : ℕ) (entries : List X) (next : X) → place < length entries
    → map number (take place entries) ≡ map (digit radix byte) (range_with_len 0 place) → rest ≡ byte / radix ^ place → number next ≡ rest % radix
    → map number (take (place + 1) (set entries place next)) ≡ map (digit radix byte) (range_with_len 0 (place + 1))
digits_put number radix byte place rest entries next inside so_far is here =
    let one : number next ≡ digit radix byte place = here ∙ ap (λ n. n % radix) is in
    let more : map (digit radix byte) (range_with_len 0 (place + 1)) ≡ map (digit radix byte) (range_with_len 0 place) ++ digit radix byte place ∷ []
    = map-range_with_len_more (digit radix byte) 0 place place (omega arith) in
    ap (map number) (take_more_set entries place next inside) ∙ rw (map_push number (take place entries) next, so_far, one, more)

pub digits_fit : (base : Base) → radix base ^ digits_in_byte base ≤ 256
digits_fit Whole = omega arith
digits_fit Sixteen = omega arith
digits_fit Six = omega arith
digits_fit Four = omega arith
digits_fit Three = omega arith
digits_fit Two = omega arith

-- the digits of one byte make a byte
pub number_with_digits_is_byte : (base : Base) (digits : List ℕ) → length digits ≤ digits_in_byte base → All (λ d. d < radix base) digits
    → number_with_digits (radix base) digits < 256
number_with_digits_is_byte base digits few h =
    let some : 0 < radix base = omega (arith, radix_at_least base) in
    omega (arith, number_with_digits_below (radix base) digits h, pow-le-pow_right some few, digits_fit base)

-- the first entries that are digits make a byte
pub front_is_byte : {X : Type 0} (number : X → ℕ) (base : Base) (entries : List X) → All (λ entry. number entry < radix base) entries
    → number_with_digits (radix base) (map number (take (digits_in_byte base) entries)) < 256
front_is_byte {X} number base entries digits =
    let IsDigit : X → Type 0 = λ entry. number entry < radix base in
    let IsBelow : ℕ → Type 0 = λ d. d < radix base in
    let front = take (digits_in_byte base) entries in
    let of_front : All IsDigit front = All-take IsDigit (digits_in_byte base) entries digits in
    let size : length (map number front) ≤ digits_in_byte base = omega (arith, length-map front number, length-take (digits_in_byte base) entries) in
    number_with_digits_is_byte base (map number front) size (All-map IsBelow number front of_front)

-- the entries from a byte on
pub number_of_chunk : Base → List ℕ → ℕ → ℕ
number_of_chunk base entries byte = number_with_digits (radix base) (take (digits_in_byte base) (drop (byte * digits_in_byte base) entries))

pub packed_so_far : Base → List ℕ → ℕ → List ℕ
packed_so_far base entries bytes = map (number_of_chunk base entries) (range_with_len 0 bytes)

pub packed_so_far-none : (base : Base) (entries : List ℕ) → packed_so_far base entries 0 ≡ []
unfolding packed_so_far
packed_so_far-none base entries = refl

pub packed_so_far-whole : {X : Type 0} (number : X → ℕ) (base : Base) (entries : List X) (bytes few : ℕ)
    → bytes ≡ div_ceil (length entries) few → few ≡ digits_in_byte base
    → packed_so_far base (map number entries) bytes ≡ digits_text base (map number entries)
unfolding packed_so_far number_of_chunk digits_text
packed_so_far-whole number base entries bytes few is_all is_few =
    ap (λ n. map (number_of_chunk base (map number entries)) (range_with_len 0 n))
    (is_all ∙ ap (div_ceil (length entries)) is_few ∙ ap (λ n. div_ceil n (digits_in_byte base)) (sym (length-map entries number)))

-- one byte more: its entries are the front of the rest
module _ {X : Type 0} (number : X → ℕ) (base : Base) (entries rest : List X) (byte : ℕ) (is_rest : rest ≡ drop (byte * digits_in_byte base) entries) where
  pub rest-next : drop (digits_in_byte base) rest ≡ drop ((byte + 1) * digits_in_byte base) entries
  rest-next =
      let next : byte * digits_in_byte base + digits_in_byte base ≡ (byte + 1) * digits_in_byte base = omega arith in
      ap (drop (digits_in_byte base)) is_rest ∙ drop-drop (digits_in_byte base) (byte * digits_in_byte base) entries ∙ ap (λ n. drop n entries) next

  number_of_front : number_with_digits (radix base) (map number (take (digits_in_byte base) rest)) ≡ number_of_chunk base (map number entries) byte
  unfolding number_of_chunk
  number_of_front =
      ap (λ xs. number_with_digits (radix base) (map number (take (digits_in_byte base) xs))) is_rest
      ∙ ap (number_with_digits (radix base)) (sym (take-map number (digits_in_byte base) (drop (byte * digits_in_byte base) entries))
      ∙ ap (take (digits_in_byte base)) (sym (drop-map number (byte * digits_in_byte base) entries)))

  pub packed_push : (next : ℕ) (before now : List ℕ) → next ≡ number_with_digits (radix base) (map number (take (digits_in_byte base) rest))
      → now ≡ before ++ packed_so_far base (map number entries) byte
      → now ++ next ∷ [] ≡ before ++ packed_so_far base (map number entries) (byte + 1)
  unfolding packed_so_far
  packed_push next before now is so_far =
      let chunk = number_of_chunk base (map number entries) in
      let here : next ≡ chunk byte = is ∙ number_of_front in
      let more = map-range_with_len_more chunk 0 byte byte (omega arith) in
      rw (so_far, here, more, append_assoc)

  left_digits : All (λ entry. number entry < radix base) entries → All (λ entry. number entry < radix base) rest
  left_digits digits = rw is_rest (All-drop (λ entry. number entry < radix base) (byte * digits_in_byte base) entries digits)

  pub group_digits : All (λ entry. number entry < radix base) entries → All (λ entry. number entry < radix base) (take (digits_in_byte base) rest)
  group_digits digits = All-take (λ entry. number entry < radix base) (digits_in_byte base) rest (left_digits digits)

  group_is_byte : All (λ entry. number entry < radix base) entries → number_with_digits (radix base) (map number (take (digits_in_byte base) rest)) < 256
  group_is_byte digits = front_is_byte number base rest (left_digits digits)

  -- behind the last whole byte
  module _ (at_end : byte ≡ length entries / digits_in_byte base) where
    pub length-left : length rest ≡ length entries % digits_in_byte base
    length-left =
        omega (
          arith,
          ap length is_rest,
          length-drop (byte * digits_in_byte base) entries,
          ap (λ n. n * digits_in_byte base) at_end,
          div-add-mod' (length entries) (digits_in_byte base),
        )

    left_is_front : take (digits_in_byte base) rest ≡ rest
    left_is_front = take_all (digits_in_byte base) rest (omega (arith, length-left, mod-lt (length entries) (digits_in_byte_at_least base)))

    pub left_is_byte : All (λ entry. number entry < radix base) entries → number_with_digits (radix base) (map number rest) < 256
    left_is_byte digits = subst (λ xs. number_with_digits (radix base) (map number xs) < 256) left_is_front (group_is_byte digits)

    pub packed-none_left : length rest ≡ 0 → packed_so_far base (map number entries) byte ≡ digits_text base (map number entries)
    packed-none_left none = packed_so_far-whole number base entries byte (digits_in_byte base) (omega (arith, none, length-left, at_end)) refl

    pub packed-left : 0 < length rest → (next : ℕ) (before now : List ℕ) → next ≡ number_with_digits (radix base) (map number rest)
        → now ≡ before ++ packed_so_far base (map number entries) byte
        → now ++ next ∷ [] ≡ before ++ digits_text base (map number entries)
    packed-left some next before now is so_far =
        let front : next ≡ number_with_digits (radix base) (map number (take (digits_in_byte base) rest)) =
        is ∙ ap (λ xs. number_with_digits (radix base) (map number xs)) (sym left_is_front) in
        packed_push next before now front so_far
        ∙ ap (λ text. before ++ text) (packed_so_far-whole number base entries (byte + 1) (digits_in_byte base) (omega (arith, some, length-left, at_end)) refl)

-- a whole group of entries lies inside
pub group_fits : (len size place : ℕ) → place < len / size → place * size + size ≤ len
group_fits len size place inside = omega (arith, row_fits place size (len / size) size inside (omega arith), div-add-mod' len size)

-- ---- reading

-- the entry at a place of packed bytes
pub entry_at : Base → List ℕ → ℕ → ℕ
entry_at base packed place = digit (radix base) (get_or packed (place / digits_in_byte base) 0) (place % digits_in_byte base)

pub entries_so_far : Base → List ℕ → ℕ → List ℕ
entries_so_far base packed count = map (entry_at base packed) (range_with_len 0 count)

pub entries_so_far-none : (base : Base) (packed : List ℕ) → entries_so_far base packed 0 ≡ []
unfolding entries_so_far
entries_so_far-none base packed = refl

-- the lowest digits of one byte more
pub entries_so_far-more : (base : Base) (packed : List ℕ) (byte count : ℕ) → count ≤ digits_in_byte base
    → entries_so_far base packed (byte * digits_in_byte base + count)
    ≡ entries_so_far base packed (byte * digits_in_byte base) ++ map (digit (radix base) (get_or packed byte 0)) (range_with_len 0 count)
unfolding entries_so_far entry_at
entries_so_far-more base packed byte zero few = rw (add-zero, append-nil)
entries_so_far-more base packed byte (suc count) few =
    let in_byte = digits_in_byte base in
    let start = byte * in_byte in
    let entry = entry_at base packed in
    let of_byte = digit (radix base) (get_or packed byte 0) in
    let here : entry (start + count) ≡ of_byte count = rw (div-mul-add byte in_byte count few, mod-mul-add byte in_byte count few) in
    let next : start + (count + 1) ≡ start + count + 1 = omega arith in
    let left = map-range_with_len_more entry 0 (start + count) (start + count) (omega arith) in
    let right = map-range_with_len_more of_byte 0 count count (omega arith) in
    let before : map entry (range_with_len 0 (start + count)) ≡ map entry (range_with_len 0 start) ++ map of_byte (range_with_len 0 count)
    = entries_so_far-more base packed byte count (omega arith) in
    let at : ℕ → Type 0 = λ n. map entry (range_with_len 0 (start + n)) ≡ map entry (range_with_len 0 start) ++ map of_byte (range_with_len 0 n) in
    subst at (add-one count) (rw (next, left, right, here, before, append_assoc))

pub entries_so_far-spells : (base : Base) (packed : List ℕ) (count : ℕ) → length packed ≡ div_ceil count (digits_in_byte base)
    → SpellsDigits base packed (entries_so_far base packed count)
unfolding entries_so_far entry_at
entries_so_far-spells base packed count size =
    let same : length (map (entry_at base packed) (range_with_len 0 count)) ≡ count = length-map-range_with_len (entry_at base packed) 0 count in
    record {
      size = rw same size;
      each = λ i inside. get_or-map-range_with_len (entry_at base packed) 0 count i i 0 (rw same at inside) (omega arith);
    }

-- digits that were written are as many as were asked for
pub length-put : {X : Type 0} (number : X → ℕ) (radix item few : ℕ) (written : List X) → map number written ≡ map (digit radix item) (range_with_len 0 few)
    → length written ≡ few
length-put number radix item few written put = sym (length-map written number) ∙ ap length put ∙ length-map-range_with_len (digit radix item) 0 few

-- the digits of one byte more, written over as many entries
pub entries-put : {X : Type 0} (number : X → ℕ) (base : Base) (packed : List ℕ) (byte few a k item : ℕ) (before written : List X) → few ≤ digits_in_byte base
    → a ≡ byte * digits_in_byte base → a ≤ length before → item ≡ get_or packed byte 0 → map number written ≡ map (digit (radix base) item) (range_with_len 0 few)
    → map number (take (byte * digits_in_byte base) before) ≡ entries_so_far base packed (byte * digits_in_byte base)
    → map number (take (byte * digits_in_byte base + few) (put_mid a k before written)) ≡ entries_so_far base packed (byte * digits_in_byte base + few)
entries-put number base packed byte few a k item before written fit start inside is put so_far =
    let len : length written ≡ few = length-put number (radix base) item few written put in
    let taken : take (byte * digits_in_byte base + few) (put_mid a k before written) ≡ take a before ++ written =
    take-put_mid a k before written (byte * digits_in_byte base + few) (omega (arith, len, start)) inside in
    ap (map number) taken ∙ map-append number (take a before) written ∙ ap (λ n. map number (take n before) ++ map number written) start
    ∙ ap (λ xs. xs ++ map number written) so_far ∙ ap (λ xs. entries_so_far base packed (byte * digits_in_byte base) ++ xs) put
    ∙ ap (λ n. entries_so_far base packed (byte * digits_in_byte base) ++ map (digit (radix base) n) (range_with_len 0 few)) is
    ∙ sym (entries_so_far-more base packed byte few fit)

-- the entries, once all are written
pub entries-all : {X : Type 0} (number : X → ℕ) (base : Base) (packed : List ℕ) (count n : ℕ) (entries : List X) → length entries ≡ count → n ≡ count
    → length packed ≡ div_ceil count (digits_in_byte base) → map number (take n entries) ≡ entries_so_far base packed n
    → SpellsDigits base packed (map number entries)
entries-all number base packed count n entries size all packed_size so_far =
    let whole : map number entries ≡ entries_so_far base packed count =
    ap (map number) (sym (take_all n entries (omega arith))) ∙ so_far ∙ ap (entries_so_far base packed) all in
    subst (SpellsDigits base packed) (sym whole) (entries_so_far-spells base packed count packed_size)

-- behind the last whole byte: as many entries as are left of the division
pub whole_and_left : (base : Base) (count byte : ℕ) → byte ≡ count / digits_in_byte base → byte * digits_in_byte base + count % digits_in_byte base ≡ count
whole_and_left base count byte at_end = omega (arith, ap (λ n. n * digits_in_byte base) at_end, div-add-mod' count (digits_in_byte base))

pub none_left : (base : Base) (count byte : ℕ) (packed : List ℕ) → byte ≡ count / digits_in_byte base → length packed ≡ div_ceil count (digits_in_byte base)
    → length packed ≤ byte → byte * digits_in_byte base ≡ count
none_left base count byte packed at_end size none = omega (arith, whole_and_left base count byte at_end, size, none, digits_in_byte_at_least base)

pub few_left : (base : Base) (count : ℕ) → count % digits_in_byte base ≤ digits_in_byte base
few_left base count = omega (arith, mod-lt count (digits_in_byte_at_least base))

-- what is written within a list leaves its length
pub put_size : {X : Type 0} (a k : ℕ) (xs ys : List X) → a + k ≤ length xs → length ys ≡ k → length (put_mid a k xs ys) ≡ length xs
put_size a k xs ys fits size =
    let e : length (take a xs ++ (ys ++ drop k (drop a xs))) ≡ length xs =
    omega (
      arith,
      length-append (take a xs) (ys ++ drop k (drop a xs)),
      length-append ys (drop k (drop a xs)),
      length-take a xs,
      length-drop k (drop a xs),
      length-drop a xs,
    ) in
    e
