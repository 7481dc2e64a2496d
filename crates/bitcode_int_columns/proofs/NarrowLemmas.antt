-- Numbers that are narrowed: their distance from a base, and how they are written one by one.
use Rattle.std.proofs.Common.{◌≡◌, ℕ, suc, ◌+◌, ◌-◌, ◌*◌, ◌%◌, ◌^◌, ◌<◌, ◌≤◌, Bool, true, false, ℤ, pos, negsuc, List, [], ◌∷◌, ◌++◌, length, map, take, get_or, sym, ap, ◌∙◌, arith, append_assoc, inl, inr}
use Rattle.std.specs.Prelude.{◌-ℤ◌, ◌≤ℤ◌, unsigned_abs}
use Rattle.std.proofs.Math.Nat.{mod-eq_of_lt, add-mod_right}
use Rattle.std.proofs.Math.Seq.{take-suc}
use Rattle.std.proofs.lemmas.Int.{ints}
use Rattle.std.proofs.lemmas.List.{map-append, append-nil}
use Rattle.std.proofs.lemmas.List.Concat.{flat_map-append}
use Rattle.bitcode_memory.specs.LittleEndian.{number_bytes, raw_text}
use Rattle.bitcode_memory.specs.IntWidths.{IsWidth}
use Rattle.bitcode_memory.specs.Ints.{IsNumber, residue}
use Rattle.bitcode_int_columns.specs.Narrowing.{above}
use Rattle.bitcode_memory.proofs.IntLemmas.{residue_below, even_residues}

-- ---- distances

gone_round : (all n d : ℕ) → n ≡ d + all → d < all → n % all ≡ d
gone_round all n d e h = ap (λ m. m % all) e ∙ add-mod_right d all ∙ mod-eq_of_lt h

pub above_least : (width : ℕ) (signed : Bool) (low z : ℤ) → 1 ≤ width → IsNumber width signed low → IsNumber width signed z → low ≤ℤ z
    → above width (residue width low) z ≡ unsigned_abs (z -ℤ low)
above_least width false (pos a) (pos b) some in_low in_z h = gone_round (256 ^ width) _ _ (omega (arith, ints)) (omega (arith, ints))
above_least width false (negsuc a) z some in_low in_z h = absurd in_low
above_least width false (pos a) (negsuc b) some in_low in_z h = absurd in_z
above_least width true (pos a) (pos b) some in_low in_z h = gone_round (256 ^ width) _ _ (omega (arith, ints)) (omega (arith, ints))
above_least width true (pos a) (negsuc b) some in_low in_z h = absurd (omega (arith, ints))
above_least width true (negsuc a) (pos b) some in_low in_z h =
    let even : (half : ℕ) × (256 ^ width ≡ 2 * half) = even_residues width some in
    ap (λ n. n % 256 ^ width) {y = b + suc a} (omega arith) ∙ mod-eq_of_lt (omega (arith, even.1))
above_least width true (negsuc a) (negsuc b) some in_low in_z h = gone_round (256 ^ width) _ _ (omega (arith, ints)) (omega (arith, ints))

pub above_zero : (width : ℕ) (signed : Bool) (z : ℤ) → IsNumber width signed z → above width 0 z ≡ residue width z
above_zero width signed z h = gone_round (256 ^ width) _ _ (omega arith) (residue_below width signed z h)

pub width_positive : (width : ℕ) → IsWidth width → 1 ≤ width
width_positive width of = elim of [
  | inl e ↦ omega arith
  | inr (inl e) ↦ omega arith
  | inr (inr (inl e)) ↦ omega arith
  | inr (inr (inr (inl e))) ↦ omega arith
  | inr (inr (inr (inr e))) ↦ omega arith
]

pub wide_distance : (width uwidth low_value high_value distance wide : ℕ) (signed : Bool) (low high : ℤ) → uwidth ≡ width → IsWidth width
    → low_value ≡ residue width low → high_value ≡ residue width high → IsNumber width signed low → IsNumber width signed high
    → distance ≡ (high_value + (256 ^ uwidth - low_value)) % 256 ^ uwidth → wide ≡ distance → low ≤ℤ high → wide ≡ unsigned_abs (high -ℤ low)
wide_distance width uwidth low_value high_value distance wide signed low high same of e1 e2 in_low in_high e3 e4 h =
    rw (e4, e3, e2, e1, same) (above_least width signed low high (width_positive width of) in_low in_high h)

-- ---- one by one

pub narrowed : (width uwidth narrow base unsigned distance wide value : ℕ) (z : ℤ) → uwidth ≡ width → unsigned ≡ residue width z
    → distance ≡ (unsigned + (256 ^ uwidth - base)) % 256 ^ uwidth → wide ≡ distance → value ≡ wide % 256 ^ narrow
    → value ≡ above width base z % 256 ^ narrow
narrowed width uwidth narrow base unsigned distance wide value z same e1 e2 e3 e4 = rw (e4, e3, e2, e1, same)

pub raw_none : (width : ℕ) (start : List ℕ) → start ≡ start ++ raw_text width []
unfolding raw_text
raw_none width start = sym (append-nil start)

pub raw_more : {X : Type 0} (width : ℕ) (f : X → ℕ) (xs : List X) (i : ℕ) (d : X) (entry : X) (start so_far next : List ℕ) (value : ℕ)
    → i < length xs → entry ≡ get_or xs i d → so_far ≡ start ++ raw_text width (map f (take i xs)) → value ≡ f entry
    → next ≡ so_far ++ number_bytes width value → next ≡ start ++ raw_text width (map f (take (i + 1) xs))
unfolding raw_text
raw_more width f xs i d entry start so_far next value h at before is after =
    let more : map f (take (i + 1) xs) ≡ map f (take i xs) ++ (f (get_or xs i d) ∷ []) =
    ap (λ n. map f (take n xs)) {y = suc i} (omega arith) ∙ ap (map f) (take-suc xs i d h) ∙ map-append f (take i xs) (get_or xs i d ∷ []) in
    let last : raw_text width (value ∷ []) ≡ number_bytes width value = append-nil (number_bytes width value) in
    let joined : raw_text width (map f (take (i + 1) xs)) ≡ raw_text width (map f (take i xs)) ++ number_bytes width value =
    ap (raw_text width) more ∙ flat_map-append (number_bytes width) (map f (take i xs)) (f (get_or xs i d) ∷ [])
    ∙ ap (λ n. raw_text width (map f (take i xs)) ++ raw_text width (n ∷ [])) (sym (is ∙ ap f at))
    ∙ ap (λ b. raw_text width (map f (take i xs)) ++ b) last in
    after ∙ ap (λ b. b ++ number_bytes width value) before ∙ append_assoc start (raw_text width (map f (take i xs))) (number_bytes width value)
    ∙ ap (λ b. start ++ b) (sym joined)

pub map_more : {X Y Z : Type 0} (f : X → Z) (h : Y → Z) (xs : List X) (i : ℕ) (d entry : X) (before after : List Y) (value : Y)
    → i < length xs → entry ≡ get_or xs i d → map h before ≡ map f (take i xs) → h value ≡ f entry → after ≡ before ++ (value ∷ [])
    → map h after ≡ map f (take (i + 1) xs)
map_more f h xs i d entry before after value inside at so_far is pushed =
    let more : map f (take (i + 1) xs) ≡ map f (take i xs) ++ (f (get_or xs i d) ∷ []) =
    ap (λ n. map f (take n xs)) {y = suc i} (omega arith) ∙ ap (map f) (take-suc xs i d inside) ∙ map-append f (take i xs) (get_or xs i d ∷ []) in
    ap (map h) pushed ∙ map-append h before (value ∷ []) ∙ ap (λ l. l ++ (h value ∷ [])) so_far ∙ ap (λ z. map f (take i xs) ++ (z ∷ [])) (is ∙ ap f at) ∙ sym more
