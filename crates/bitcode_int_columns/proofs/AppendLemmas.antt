-- What was appended is the text of the column.
use Rattle.std.proofs.Common.{◌≡◌, ℕ, ◌-◌, ◌%◌, ◌^◌, ◌<◌, ◌≤◌, Bool, true, false, eqb, ◌||◌, ◌&&◌, ℤ, pos, List, [], ◌∷◌, ◌++◌, length, map, get_or, All, Result, Ok, Err, OnOk, Option, Some, IfSome, sym, ap, ◌∙◌, subst, arith, append_assoc, mod-eq_of_lt}
use Rattle.std.proofs.lemmas.Bool.{cond-true, cond-false, eq-eqb, ne_eqb, and_parts, and_from, ltb-true, lt-ltb, true≢false}
use Rattle.std.proofs.lemmas.List.{length-map}
use Rattle.std.proofs.lemmas.Simd.{map-map}
use Rattle.std.proofs.Math.Nat.{zero-mod}
use Rattle.bitcode_memory.specs.LittleEndian.{number_bytes, raw_text}
use Rattle.bitcode_memory.specs.Ints.{IsNumber, residue, number_of, least, greatest}
use Rattle.bitcode_columns.specs.ByteColumn.{byte_text}
use Rattle.bitcode_memory.specs.IntWidths.{IsWidth}
use Rattle.bitcode_columns.specs.IntColumn.{halvings, int_text, int_text_as, narrow_text, int_level_for, text_at_int_level}
use Rattle.bitcode_columns.specs.Tagged.{tag_of, tagged_text}
use Rattle.std.specs.Prelude.{◌≤ℤ◌, nat_lt}
use Rattle.std.proofs.lemmas.List.Elements.{All-map}
use Rattle.bitcode_int_columns.specs.Narrowing.{above, plain_width, shifted_width}
use Rattle.bitcode_memory.proofs.IntLemmas.{number_of-residue, residue_below}
use Rattle.bitcode_int_columns.proofs.NarrowLemmas.{above_zero}
use Rattle.bitcode_int_columns.proofs.WrittenLemmas.{map_within, in_order, shifted_text_is, plain_text_is}

pub on_ok_both : {T E P Q R : Type 0} (r : Result T E) → (P → Q → R) → OnOk r P → OnOk r Q → OnOk r R
on_ok_both (Ok v) f p q = f p q
on_ok_both (Err e) f p q = tt

pub IfSome-at : {X : Type 0} (P : X → Type 0) {o : Option X} {x : X} → o ≡ Some x → IfSome o P → P x
IfSome-at P e h = let Q = λ (o : Option _). IfSome o P in subst Q e h

pub no_base : (all base : ℕ) → base ≡ 0 % all → base ≡ 0
no_base all base e = e ∙ zero-mod all

-- ---- entries of one byte

pub column_numbers : {X : Type 0} (width base : ℕ) (signed : Bool) (f : X → ℤ) (xs : List X) → width ≡ 1 → base ≡ 0
    → All (λ x. IsNumber width signed (f x)) xs → map (λ x. number_of 1 signed (above width base (f x) % 256)) xs ≡ map f xs
column_numbers width base signed f xs one none h = map_within (λ x. number_of 1 signed (above width base (f x) % 256)) f xs
    (λ k d i.
    let z : ℤ = f (get_or xs k d) in
    let in_z : IsNumber 1 signed z = subst (λ w. IsNumber w signed z) one (h k d i) in
    let P : ℕ → ℕ → Type 0 = λ w b. number_of 1 signed (above w b z % 256) ≡ z in
    let plain : P 1 0 =
    ap (λ n. number_of 1 signed (n % 256)) (above_zero 1 signed z in_z)
    ∙ ap (number_of 1 signed) (mod-eq_of_lt (residue_below 1 signed z in_z))
    ∙ number_of-residue 1 signed z (omega arith) in_z in
    subst (λ w. P w base) (sym one) (subst (P 1) (sym none) plain))

pub narrow_one : {X : Type 0} (width : ℕ) (f : X → ℕ) (xs : List X) → width ≡ 1
    → byte_text (map (λ x. pos (f x % 256)) xs) ≡ narrow_text width (map (λ x. f x % 256 ^ width) xs)
narrow_one width f xs one =
    let P : ℕ → Type 0 = λ w. byte_text (map (λ x. pos (f x % 256)) xs) ≡ narrow_text w (map (λ x. f x % 256 ^ w) xs) in
    subst P (sym one) (ap byte_text (sym (map-map pos (λ x. f x % 256) xs)))

-- ---- behind a tag

pub plain_appended : {X : Type 0} (f : ℕ → X → ℕ) (text : List ℕ → List ℕ) (xs : List X) (base tag told : ℕ) (old tagged new : List ℕ) → base ≡ 0 → tag ≡ told
    → tagged ≡ old ++ (tag ∷ []) → new ≡ tagged ++ text (map (f base) xs) → new ≡ old ++ (told ∷ text (map (f 0) xs))
plain_appended f text xs base tag told old tagged new none same pushed written =
    written ∙ ap (λ b. tagged ++ text (map (f b) xs)) none ∙ ap (λ l. l ++ text (map (f 0) xs)) pushed
    ∙ append_assoc old (tag ∷ []) (text (map (f 0) xs)) ∙ ap (λ t. old ++ (t ∷ text (map (f 0) xs))) same

pub shifted_appended : {X : Type 0} (f : ℕ → X → ℕ) (text : List ℕ → List ℕ) (xs : List X) (uwidth width value low tag told : ℕ) (old tagged based new : List ℕ)
    → uwidth ≡ width → value ≡ low → tag ≡ told → tagged ≡ old ++ (tag ∷ []) → based ≡ tagged ++ number_bytes uwidth value
    → new ≡ based ++ text (map (f value) xs) → new ≡ old ++ (told ∷ (number_bytes width low ++ text (map (f low) xs)))
shifted_appended f text xs uwidth width value low tag told old tagged based new same is_low is_told pushed wrote written =
    written ∙ ap (λ b. based ++ text (map (f b) xs)) is_low
    ∙ ap (λ l. l ++ text (map (f low) xs)) (wrote ∙ ap (λ l. l ++ number_bytes uwidth value) (pushed ∙ ap (λ t. old ++ (t ∷ [])) is_told)
    ∙ ap (λ w. (old ++ (told ∷ [])) ++ number_bytes w value) same ∙ ap (λ n. (old ++ (told ∷ [])) ++ number_bytes width n) is_low)
    ∙ simp append_assoc

-- ---- the forms of a column

pub int_text_bytes : (width : ℕ) (entries : List ℤ) → width ≡ 1 → int_text width entries ≡ byte_text entries
unfolding int_text
int_text_bytes width entries one =
    ap (λ form. int_text_as form width entries) (cond-true _ _ _ (eq-eqb width 1 one))

pub int_text_bare : (width : ℕ) (entries : List ℤ) → (width ≡ 1 → ⊥) → (eqb (length entries) 0 || (eqb width 2 && eqb (length entries) 1)) ≡ true
    → int_text width entries ≡ raw_text width (map (residue width) entries)
unfolding int_text
int_text_bare width entries more bare =
    ap (λ form. int_text_as form width entries) (cond-false _ _ _ (ne_eqb width 1 more) ∙ cond-true _ _ _ bare)

pub int_text_tagged : (width : ℕ) (entries : List ℤ) → (width ≡ 1 → ⊥) → (eqb (length entries) 0 || (eqb width 2 && eqb (length entries) 1)) ≡ false
    → int_text width entries ≡ tagged_text width (int_level_for width) (text_at_int_level width) entries
unfolding int_text
int_text_tagged width entries more bare =
    ap (λ form. int_text_as form width entries) (cond-false _ _ _ (ne_eqb width 1 more) ∙ cond-false _ _ _ bare)

-- the test for a column without a tag
pub bare_test : {X : Type 0} (f : X → ℤ) (xs : List X) (width told : ℕ) (test answer : Bool) → told ≡ width
    → test ≡ (eqb (length xs) 0 || (eqb told 2 && eqb (length xs) 1)) → test ≡ answer
    → (eqb (length (map f xs)) 0 || (eqb width 2 && eqb (length (map f xs)) 1)) ≡ answer
bare_test f xs width told test answer same tested answered =
    ap (λ n. eqb n 0 || (eqb width 2 && eqb n 1)) (length-map xs f) ∙ ap (λ w. eqb (length xs) 0 || (eqb w 2 && eqb (length xs) 1)) (sym same)
    ∙ sym tested ∙ answered

-- the residues, as they are written raw
pub raw_residues : {X : Type 0} (uwidth width base : ℕ) (signed : Bool) (f : X → ℤ) (xs : List X) → uwidth ≡ width → base ≡ 0
    → All (λ x. IsNumber width signed (f x)) xs
    → raw_text uwidth (map (λ x. above width base (f x) % 256 ^ uwidth) xs) ≡ raw_text width (map (residue width) (map f xs))
raw_residues uwidth width base signed f xs same none h =
    let P : ℕ → ℕ → Type 0 = λ w b. raw_text w (map (λ x. above width b (f x) % 256 ^ w) xs) ≡ raw_text width (map (residue width) (map f xs)) in
    let numbers : map (λ x. above width 0 (f x) % 256 ^ width) xs ≡ map (λ x. residue width (f x)) xs =
    map_within (λ x. above width 0 (f x) % 256 ^ width) (λ x. residue width (f x)) xs
    (λ k d i. ap (λ n. n % 256 ^ width) (above_zero width signed (f (get_or xs k d)) (h k d i)) ∙ mod-eq_of_lt (residue_below width signed (f (get_or xs k d)) (h k d i))) in
    let plain : P width 0 = ap (raw_text width) (numbers ∙ sym (map-map (residue width) f xs)) in
    subst (λ w. P w base) (sym same) (subst (P width) (sym none) plain)

-- ---- what was there stays

-- ---- what the writer of a tagged column found

pub ordered : (entries : List ℤ) (low high : ℤ) → 1 ≤ length entries → low ≡ least entries → high ≡ greatest entries → low ≤ℤ high
ordered entries low high some e1 e2 =
    subst (λ z. z ≤ℤ high) (sym e1) (subst (λ z. least entries ≤ℤ z) (sym e2) (in_order entries some))

pub tagged_shifted : {X : Type 0} (f : X → ℤ) (xs : List X) (width plain shifted : ℕ) (signed : Bool) (low high : ℤ) (old new : List ℕ)
    → IsWidth width → 1 ≤ length xs → All (λ x. IsNumber width signed (f x)) xs → low ≡ least (map f xs) → high ≡ greatest (map f xs)
    → plain ≡ plain_width width low high → shifted ≡ shifted_width low high → (nat_lt 5 (length xs) && nat_lt shifted plain) ≡ true
    → new ≡ old ++ (tag_of (halvings width - halvings shifted) true
    ∷ (number_bytes width (residue width low) ++ narrow_text shifted (map (λ x. above width (residue width low) (f x) % 256 ^ shifted) xs)))
    → new ≡ old ++ tagged_text width (int_level_for width) (text_at_int_level width) (map f xs)
tagged_shifted f xs width plain shifted signed low high old new is_width some numbers is_low is_high is_plain is_shifted test written =
    let entries : List ℤ = map f xs in
    let Text : ℤ → ℕ → List ℕ = λ l s. tag_of (halvings width - halvings s) true
    ∷ (number_bytes width (residue width l) ++ narrow_text s (map (λ x. above width (residue width l) (f x) % 256 ^ s) xs)) in
    let same_width : shifted ≡ shifted_width (least entries) (greatest entries) =
    is_shifted ∙ ap (λ z. shifted_width z high) is_low ∙ ap (shifted_width (least entries)) is_high in
    let same_plain : plain ≡ plain_width width (least entries) (greatest entries) =
    is_plain ∙ ap (λ z. plain_width width z high) is_low ∙ ap (plain_width width (least entries)) is_high in
    let parts = and_parts _ _ test in
    let count : length entries ≡ length xs = length-map xs f in
    let mapped : Text (least entries) (shifted_width (least entries) (greatest entries))
    ≡ tag_of (halvings width - halvings (shifted_width (least entries) (greatest entries))) true
    ∷ (number_bytes width (residue width (least entries)) ++ narrow_text (shifted_width (least entries) (greatest entries))
    (map (λ z. above width (residue width (least entries)) z % 256 ^ shifted_width (least entries) (greatest entries)) entries)) =
    ap (λ ns. tag_of (halvings width - halvings (shifted_width (least entries) (greatest entries))) true
    ∷ (number_bytes width (residue width (least entries)) ++ narrow_text (shifted_width (least entries) (greatest entries)) ns))
    (sym (map-map (λ z. above width (residue width (least entries)) z % 256 ^ shifted_width (least entries) (greatest entries)) f xs)) in
    written ∙ ap (λ t. old ++ t) (ap (Text low) same_width ∙ ap (λ l. Text l (shifted_width (least entries) (greatest entries))) is_low ∙ mapped
    ∙ sym (shifted_text_is width signed entries is_width (omega arith) (All-map (IsNumber width signed) f xs numbers)
    (omega (arith, ltb-true _ _ parts.0)) (subst (λ p. shifted_width (least entries) (greatest entries) < p) same_plain
    (subst (λ s. s < plain) same_width (ltb-true _ _ parts.1)))))

pub tagged_plain : {X : Type 0} (f : X → ℤ) (xs : List X) (width plain shifted : ℕ) (signed : Bool) (low high : ℤ) (old new : List ℕ)
    → IsWidth width → 1 ≤ length xs → All (λ x. IsNumber width signed (f x)) xs → low ≡ least (map f xs) → high ≡ greatest (map f xs)
    → plain ≡ plain_width width low high → shifted ≡ shifted_width low high → (nat_lt 5 (length xs) && nat_lt shifted plain) ≡ false
    → new ≡ old ++ (tag_of (halvings width - halvings plain) false ∷ narrow_text plain (map (λ x. above width 0 (f x) % 256 ^ plain) xs))
    → new ≡ old ++ tagged_text width (int_level_for width) (text_at_int_level width) (map f xs)
tagged_plain f xs width plain shifted signed low high old new is_width some numbers is_low is_high is_plain is_shifted test written =
    let entries : List ℤ = map f xs in
    let Text : ℕ → List ℕ = λ p. tag_of (halvings width - halvings p) false ∷ narrow_text p (map (λ x. above width 0 (f x) % 256 ^ p) xs) in
    let same_width : shifted ≡ shifted_width (least entries) (greatest entries) =
    is_shifted ∙ ap (λ z. shifted_width z high) is_low ∙ ap (shifted_width (least entries)) is_high in
    let same_plain : plain ≡ plain_width width (least entries) (greatest entries) =
    is_plain ∙ ap (λ z. plain_width width z high) is_low ∙ ap (plain_width width (least entries)) is_high in
    let count : length entries ≡ length xs = length-map xs f in
    let mapped : Text (plain_width width (least entries) (greatest entries))
    ≡ tag_of (halvings width - halvings (plain_width width (least entries) (greatest entries))) false
    ∷ narrow_text (plain_width width (least entries) (greatest entries)) (map (λ z. above width 0 z % 256 ^ plain_width width (least entries) (greatest entries)) entries) =
    ap (λ ns. tag_of (halvings width - halvings (plain_width width (least entries) (greatest entries))) false
    ∷ narrow_text (plain_width width (least entries) (greatest entries)) ns)
    (sym (map-map (λ z. above width 0 z % 256 ^ plain_width width (least entries) (greatest entries)) f xs)) in
    written ∙ ap (λ t. old ++ t) (ap Text same_plain ∙ mapped
    ∙ sym (plain_text_is width signed entries is_width (omega arith) (All-map (IsNumber width signed) f xs numbers)
    (λ many less. true≢false (sym (and_from _ _ (lt-ltb _ _ (omega arith))
    (lt-ltb _ _ (subst (λ s. s < plain) (sym same_width) (subst (λ p. shifted_width (least entries) (greatest entries) < p) (sym same_plain) less)))) ∙ test))))
