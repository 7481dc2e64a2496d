-- How a byte column is written: bare, behind a plain tag, or behind a shifted one.
use Rattle.std.proofs.Common.{subst, ◌≡◌, ℕ, ◌+◌, ◌-◌, ◌*◌, ◌/◌, ◌%◌, ◌<◌, ◌≤◌, min, Bool, true, false, cond, ltb, ◌&&◌, ◌⊎◌, inl, inr, ⊎_elim, ℤ, pos, negsuc, List, [], ◌∷◌, ◌++◌, length, map, take, drop, set, get_or, All, refl, sym, ap, ◌∙◌, arith}
use Rattle.std.specs.Prelude.{◌-ℤ◌, ◌≤ℤ◌, int_lt, unsigned_abs}
use Rattle.std.proofs.Math.Nat.{mod-eq_of_lt, add-zero}
use Rattle.std.proofs.lemmas.Bool.{cond-true, cond-false, cond_both, lt-ltb, le-ltb, le-leb, lt-leb, cases_lt, cases_Bool}
use Rattle.std.proofs.lemmas.Int.{ints}
use Rattle.std.proofs.lemmas.List.{length-map, drop_more, get_or-map, get_or-drop, take_more_set, map_push, map_more, drop-set-lt, drop-drop}
use Rattle.std.proofs.lemmas.List.FromFn.{fill_by_all}
use Rattle.std.specs.Cmp.Derive.{both_true}
use Rattle.bitcode_columns.specs.declared.pack.Base.{Base}
use Rattle.bitcode_columns.specs.declared.pack.Base.TheVariants.{Whole, Sixteen, Six, Four, Three, Two}
use Rattle.bitcode_columns.specs.ByteColumn.{level_of_base, base_at_level, byte_level_for, byte_text}
use Rattle.bitcode_columns.specs.Digits.{radix, base_for, digits_text, number_with_digits}
use Rattle.bitcode_memory.specs.Ints.{IsNumber, residue, number_of, least, greatest}
use Rattle.bitcode_columns.specs.Tagged.{tagged_text, plain_level}
use Rattle.bitcode_columns.proofs.DigitLemmas.{base_for_above}
use Rattle.bitcode_memory.proofs.IntLemmas.{residue_below, residue_from, residue-number_of, least_below, greatest_above, distances_below, residues_below}
use Rattle.std.proofs.lemmas.Simd.{map-map}

distance_fits : (signed : Bool) (low z : ℤ) → IsNumber 1 signed low → IsNumber 1 signed z → low ≤ℤ z → unsigned_abs (z -ℤ low) < 256
distance_fits false (pos a) (pos b) in_low in_z h = omega (arith, ints)
distance_fits false (pos a) (negsuc b) in_low in_z h = absurd in_z
distance_fits false (negsuc a) z in_low in_z h = absurd in_low
distance_fits true (pos a) (pos b) in_low in_z h = omega (arith, ints)
distance_fits true (pos a) (negsuc b) in_low in_z h = omega (arith, ints)
distance_fits true (negsuc a) (pos b) in_low in_z h = omega (arith, ints)
distance_fits true (negsuc a) (negsuc b) in_low in_z h = omega (arith, ints)

-- the difference of two bytes is the distance of their numbers
pub distance : (signed : Bool) (low z : ℤ) → IsNumber 1 signed low → IsNumber 1 signed z → low ≤ℤ z
    → (residue 1 z + (256 - residue 1 low)) % 256 ≡ unsigned_abs (z -ℤ low)
distance signed low z in_low in_z h =
    omega (arith, residue_from 1 signed low z in_low in_z h, distance_fits signed low z in_low in_z h, residue_below 1 signed low in_low)

pub base_at_level_of : (base : Base) → base_at_level (level_of_base base) ≡ base
base_at_level_of Whole = refl
base_at_level_of Sixteen = refl
base_at_level_of Six = refl
base_at_level_of Four = refl
base_at_level_of Three = refl
base_at_level_of Two = refl

abbrev pub plain_base_of : (low high : ℤ) → Base
plain_base_of low high = cond (int_lt low (pos 0)) Whole (base_for (unsigned_abs high))

pub plain_level-is : (entries : List ℤ) → plain_level byte_level_for entries ≡ level_of_base (plain_base_of (least entries) (greatest entries))
plain_level-is entries =
    cond_both (int_lt (least entries) (pos 0)) Whole (base_for (unsigned_abs (greatest entries)))
    (λ base. plain_level byte_level_for entries ≡ level_of_base base)
    (λ negative. cond-true _ _ _ negative) (λ not. cond-false _ _ _ not)

-- whole bytes stand as they are
pub digits_text-whole_from : (entries : List ℕ) → digits_text Whole entries ≡ entries
unfolding digits_text
digits_text-whole_from entries =
    let count : length entries ≡ length entries / 1 + min 1 (length entries % 1) = omega arith in
    sym (fill_by_all (λ byte. number_with_digits 256 (take 1 (drop (byte * 1) entries))) entries _ 0 count
    (λ k inside.
    let place : k * 1 ≡ k = omega arith in
    rw (place, drop_more entries k 0 (omega arith), add-zero)))

pub byte_text-bare : (entries : List ℤ) → length entries ≤ 2 → byte_text entries ≡ map (residue 1) entries
unfolding byte_text
byte_text-bare entries few = cond-true _ _ _ (le-leb (length entries) 2 few)

and_false : (a b : Bool) → (a ≡ false) ⊎ (b ≡ false) → (a && b) ≡ false
and_false a b (inl e) = ap (λ x. x && b) e
and_false true b (inr e) = e
and_false false b (inr e) = refl

pub byte_text-shifted : (entries : List ℤ) (plain shifted : Base) → 5 < length entries → residue 1 (least entries) < 256
    → plain ≡ plain_base_of (least entries) (greatest entries) → shifted ≡ base_for (unsigned_abs (greatest entries -ℤ least entries))
    → level_of_base plain < level_of_base shifted
    → byte_text entries ≡ (2 * level_of_base shifted - 1) ∷ (residue 1 (least entries) ∷ digits_text shifted (map (λ e. unsigned_abs (e -ℤ least entries)) entries))
unfolding byte_text tagged_text
byte_text-shifted entries plain shifted many low is_plain is_distance smaller =
    let far = base_for (unsigned_abs (greatest entries -ℤ least entries)) in
    let digits = map (λ e. unsigned_abs (e -ℤ least entries)) entries in
    let levels : plain_level byte_level_for entries < level_of_base far = omega (arith, plain_level-is entries, ap level_of_base is_plain, ap level_of_base is_distance) in
    let text : Base → ℕ → List ℕ = λ base low_byte. (2 * level_of_base far - 1) ∷ (low_byte ∷ digits_text base digits) in
    let of_far : Base → List ℕ = λ base. (2 * level_of_base base - 1) ∷ (residue 1 (least entries) ∷ digits_text base digits) in
    cond-false _ _ _ (lt-leb (length entries) 2 (omega arith))
    ∙ cond-true _ _ _ (both_true (lt-ltb 5 (length entries) many) (lt-ltb _ _ levels))
    ∙ ap (text (base_at_level (level_of_base far))) (mod-eq_of_lt low)
    ∙ ap (λ base. text base (residue 1 (least entries))) (base_at_level_of far)
    ∙ ap of_far (sym is_distance)

pub byte_text-plain : (entries : List ℤ) (plain shifted : Base) → 2 < length entries
    → plain ≡ plain_base_of (least entries) (greatest entries) → shifted ≡ base_for (unsigned_abs (greatest entries -ℤ least entries))
    → (length entries ≤ 5) ⊎ (level_of_base shifted ≤ level_of_base plain)
    → byte_text entries ≡ (2 * level_of_base plain) ∷ digits_text plain (map (residue 1) entries)
unfolding byte_text tagged_text
byte_text-plain entries plain shifted many is_plain is_distance not =
    let near = plain_base_of (least entries) (greatest entries) in
    let far = base_for (unsigned_abs (greatest entries -ℤ least entries)) in
    let digits = map (residue 1) entries in
    let level = plain_level byte_level_for entries in
    let tests : (ltb 5 (length entries) ≡ false) ⊎ (ltb level (level_of_base far) ≡ false)
    = ⊎_elim (λ few. inl (le-ltb 5 (length entries) few))
    (λ high. let levels : level_of_base far ≤ level = omega (arith, plain_level-is entries, ap level_of_base is_plain, ap level_of_base is_distance) in inr (le-ltb level (level_of_base far) levels))
    not in
    let text : ℕ → List ℕ = λ at. (2 * at) ∷ digits_text (base_at_level at) digits in
    let of_near : Base → List ℕ = λ base. (2 * level_of_base base) ∷ digits_text base digits in
    cond-false _ _ _ (lt-leb (length entries) 2 many)
    ∙ cond-false _ _ _ (and_false (ltb 5 (length entries)) (ltb level (level_of_base far)) tests)
    ∙ ap text (plain_level-is entries)
    ∙ ap (λ base. (2 * level_of_base near) ∷ digits_text base digits) (base_at_level_of near)
    ∙ ap of_near (sym is_plain)

-- the front of what is left
pub get_or-of_rest : {X : Type 0} (old now : List X) (i : ℕ) (d : X) → drop i now ≡ drop i old → get_or now i d ≡ get_or old i d
get_or-of_rest old now i d rest =
    let place : i + 0 ≡ i = omega arith in
    sym (get_or-drop i now 0 d ∙ ap (λ k. get_or now k d) place) ∙ ap (λ xs. get_or xs 0 d) rest ∙ get_or-drop i old 0 d ∙ ap (λ k. get_or old k d) place

-- one element more that is written over: its image under f is that of the old one under g
pub written_over_more : {X Y : Type 0} (f g : X → Y) (old now : List X) (i : ℕ) (d next : X) → i < length now → length now ≡ length old
    → map f (take i now) ≡ map g (take i old) → drop i now ≡ drop i old → f next ≡ g (get_or now i d)
    → (map f (take (i + 1) (set now i next)) ≡ map g (take (i + 1) old)) × (drop (i + 1) (set now i next) ≡ drop (i + 1) old)
written_over_more f g old now i d next inside size done rest written = (
  ap (map f) (take_more_set now i next inside)
      ∙ map_push f (take i now) next
      ∙ ap (λ ys. ys ++ f next ∷ []) done
      ∙ ap (λ y. map g (take i old) ++ y ∷ []) (written ∙ ap g (get_or-of_rest old now i d rest))
      ∙ sym (map_more g old i d (omega arith)),
  drop-set-lt (i + 1) now i next (omega arith) ∙ sym (drop-drop 1 i now) ∙ ap (drop 1) rest ∙ drop-drop 1 i old,
)

-- a byte less the least one, as a number again, is the distance
pub residue_of_distance : (signed : Bool) (low z next : ℤ) (low_byte byte : ℕ) → IsNumber 1 signed low → IsNumber 1 signed z → low ≤ℤ z
    → low_byte ≡ residue 1 low → byte ≡ residue 1 z → next ≡ number_of 1 signed ((byte + (256 - low_byte)) % 256)
    → residue 1 next ≡ unsigned_abs (z -ℤ low)
residue_of_distance signed low z next low_byte byte in_low in_z h is_low is_byte is_next =
    ap (residue 1) is_next
    ∙ residue-number_of 1 signed ((byte + (256 - low_byte)) % 256) (omega arith)
    ∙ ap (λ b. (b + (256 - low_byte)) % 256) is_byte
    ∙ ap (λ b. (residue 1 z + (256 - b)) % 256) is_low
    ∙ distance signed low z in_low in_z h

-- ---- entries of a type, by their numbers

All-of_map : {X Y : Type 0} (P : Y → Type 0) (f : X → Y) (xs : List X) → All P (map f xs) → All (λ x. P (f x)) xs
All-of_map P f xs h = λ k d inside.
    let size : k < length (map f xs) = omega (arith, length-map xs f) in
    subst P (get_or-map f xs k d (f d) inside) (h k (f d) size)

pub base_for_reaches : (number : ℕ) → (base_for number ≡ Whole) ⊎ (number < radix (base_for number))
base_for_reaches number =
    ⊎_elim (λ low. inr (base_for_above number (omega arith)))
    (λ high.
    inl (cond-false _ _ _ (le-ltb number 2 (omega arith)) ∙ cond-false _ _ _ (le-ltb number 3 (omega arith)) ∙ cond-false _ _ _ (le-ltb number 4 (omega arith))
    ∙ cond-false _ _ _ (le-ltb number 6 (omega arith)) ∙ cond-false _ _ _ (le-ltb number 16 high)))
    (cases_lt number 16)

-- digits up to a number are digits of its base, or whole bytes
digits_of_base : {X : Type 0} (f : X → ℕ) (xs : List X) (number : ℕ) (base : Base) → base ≡ base_for number → All (λ n. n ≤ number) (map f xs)
    → (base ≡ Whole) ⊎ All (λ x. f x < radix base) xs
digits_of_base f xs number base is below =
    ⊎_elim (λ whole. inl (is ∙ whole))
    (λ reaches.
    let above : number < radix base = rw is reaches in
    let each : All (λ x. f x ≤ number) xs = All-of_map (λ n. n ≤ number) f xs below in
    inr (λ k d inside. let low : f (get_or xs k d) ≤ number = each k d inside in omega arith))
    (base_for_reaches number)

pub plain_is : (low high low' high' : ℤ) (plain : Base) → low ≡ low' → high ≡ high' → plain ≡ plain_base_of low high → plain ≡ plain_base_of low' high'
plain_is low high low' high' plain is_low is_high is = is ∙ ap (λ z. plain_base_of z high) is_low ∙ ap (plain_base_of low') is_high

pub shifted_is : (low high low' high' : ℤ) (shifted : Base) → low ≡ low' → high ≡ high' → shifted ≡ base_for (unsigned_abs (high -ℤ low))
    → shifted ≡ base_for (unsigned_abs (high' -ℤ low'))
shifted_is low high low' high' shifted is_low is_high is =
    is ∙ ap (λ z. base_for (unsigned_abs (high -ℤ z))) is_low ∙ ap (λ z. base_for (unsigned_abs (z -ℤ low'))) is_high

module _ {X : Type 0} (number : X → ℤ) (bytes : List X) where
  pub least_le_greatest : 0 < length bytes → least (map number bytes) ≤ℤ greatest (map number bytes)
  least_le_greatest some =
      let size : 0 < length (map number bytes) = omega (arith, length-map bytes number) in
      let low = least_below (map number bytes) 0 (pos 0) size in
      let high = greatest_above (map number bytes) 0 (pos 0) size in
      omega (arith, ints)

  pub above_least : (low : ℤ) → low ≡ least (map number bytes) → All (λ entry. low ≤ℤ number entry) bytes
  above_least low is =
      let P : ℤ → Type 0 = λ z. All (λ e. z ≤ℤ e) (map number bytes) in
      All-of_map (λ e. low ≤ℤ e) number bytes (subst P (sym is) (least_below (map number bytes)))

  pub plain_digits : (plain : Base) → plain ≡ plain_base_of (least (map number bytes)) (greatest (map number bytes))
      → (plain ≡ Whole) ⊎ All (λ entry. residue 1 (number entry) < radix plain) bytes
  plain_digits plain is =
      let low = least (map number bytes) in
      let high = greatest (map number bytes) in
      ⊎_elim (λ negative. inl (is ∙ cond-true _ _ _ negative))
      (λ not.
      let at_least : pos 0 ≤ℤ low = omega (arith, ints) in
      let below : All (λ n. n ≤ unsigned_abs high) (map (λ entry. residue 1 (number entry)) bytes)
      = rw (map-map (residue 1) number bytes) at (residues_below 1 (map number bytes) at_least) in
      digits_of_base (λ entry. residue 1 (number entry)) bytes (unsigned_abs high) plain (is ∙ cond-false _ _ _ not) below)
      (cases_Bool (int_lt low (pos 0)))

  pub shifted_digits : (shifted : Base) (low : ℤ) (written : List X) → low ≡ least (map number bytes)
      → shifted ≡ base_for (unsigned_abs (greatest (map number bytes) -ℤ least (map number bytes)))
      → map (λ entry. residue 1 (number entry)) written ≡ map (λ entry. unsigned_abs (number entry -ℤ low)) bytes
      → (shifted ≡ Whole) ⊎ All (λ entry. residue 1 (number entry) < radix shifted) written
  shifted_digits shifted low written is_low is digits =
      let apart = unsigned_abs (greatest (map number bytes) -ℤ least (map number bytes)) in
      let same : map (λ entry. residue 1 (number entry)) written ≡ map (λ e. unsigned_abs (e -ℤ least (map number bytes))) (map number bytes)
      = digits ∙ ap (λ z. map (λ entry. unsigned_abs (number entry -ℤ z)) bytes) is_low ∙ sym (map-map (λ e. unsigned_abs (e -ℤ least (map number bytes))) number bytes) in
      let below : All (λ n. n ≤ apart) (map (λ entry. residue 1 (number entry)) written) = rw same (distances_below (map number bytes)) in
      digits_of_base (λ entry. residue 1 (number entry)) written apart shifted is below

  pub text-bare : length bytes ≤ 2 → byte_text (map number bytes) ≡ map (λ entry. residue 1 (number entry)) bytes
  text-bare few = byte_text-bare (map number bytes) (omega (arith, length-map bytes number)) ∙ map-map (residue 1) number bytes

  pub text-plain : (plain shifted : Base) (tag : ℕ) → 2 < length bytes
      → plain ≡ plain_base_of (least (map number bytes)) (greatest (map number bytes))
      → shifted ≡ base_for (unsigned_abs (greatest (map number bytes) -ℤ least (map number bytes)))
      → (length bytes ≤ 5) ⊎ (level_of_base shifted ≤ level_of_base plain) → tag ≡ 2 * level_of_base plain
      → byte_text (map number bytes) ≡ tag ∷ digits_text plain (map (λ entry. residue 1 (number entry)) bytes)
  text-plain plain shifted tag many is_plain is_distance not is_tag =
      let size = length-map bytes number in
      byte_text-plain (map number bytes) plain shifted (omega arith) is_plain is_distance (⊎_elim (λ few. inl (omega arith)) (λ high. inr high) not)
      ∙ ap (λ digits. (2 * level_of_base plain) ∷ digits_text plain digits) (map-map (residue 1) number bytes)
      ∙ ap (λ t. t ∷ digits_text plain (map (λ entry. residue 1 (number entry)) bytes)) (sym is_tag)

  pub text-shifted : (plain shifted : Base) (low : ℤ) (tag low_byte : ℕ) (digits : List ℕ) → 5 < length bytes
      → plain ≡ plain_base_of (least (map number bytes)) (greatest (map number bytes))
      → shifted ≡ base_for (unsigned_abs (greatest (map number bytes) -ℤ least (map number bytes)))
      → level_of_base plain < level_of_base shifted → tag ≡ 2 * level_of_base shifted - 1
      → low ≡ least (map number bytes) → low_byte ≡ residue 1 low → low_byte < 256
      → digits ≡ map (λ entry. unsigned_abs (number entry -ℤ low)) bytes
      → byte_text (map number bytes) ≡ tag ∷ (low_byte ∷ digits_text shifted digits)
  text-shifted plain shifted low tag low_byte digits many is_plain is_distance smaller is_tag is_low is_byte below is_digits =
      let entries = map number bytes in
      let lowest = least entries in
      let low_is : low_byte ≡ residue 1 lowest = is_byte ∙ ap (residue 1) is_low in
      let fits : residue 1 lowest < 256 = omega arith in
      let same : map (λ e. unsigned_abs (e -ℤ lowest)) entries ≡ digits
      = map-map (λ e. unsigned_abs (e -ℤ lowest)) number bytes ∙ ap (λ z. map (λ entry. unsigned_abs (number entry -ℤ z)) bytes) (sym is_low) ∙ sym is_digits in
      byte_text-shifted entries plain shifted (omega (arith, length-map bytes number)) fits is_plain is_distance smaller
      ∙ ap (λ t. t ∷ (residue 1 lowest ∷ digits_text shifted (map (λ e. unsigned_abs (e -ℤ lowest)) entries))) (sym is_tag)
      ∙ ap (λ b. tag ∷ (b ∷ digits_text shifted (map (λ e. unsigned_abs (e -ℤ lowest)) entries))) (sym low_is)
      ∙ ap (λ ds. tag ∷ (low_byte ∷ digits_text shifted ds)) same
