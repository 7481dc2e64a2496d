-- The text of a tagged column, as its writer picks widths.
use Rattle.std.proofs.Common.{◌≡◌, ℕ, ◌-◌, ◌%◌, ◌^◌, ◌<◌, ◌≤◌, Bool, true, false, cond, ltb, ℤ, pos, List, [], ◌∷◌, ◌++◌, length, map, get_or, All, refl, sym, ap, ◌∙◌, arith, ⊎_elim}
use Rattle.std.specs.Prelude.{◌-ℤ◌, ◌≤ℤ◌, int_lt, unsigned_abs}
use Rattle.std.proofs.Math.Nat.{mod-eq_of_lt, pow-le-pow_right}
use Rattle.std.proofs.lemmas.Bool.{cond-true, cond-false, cond_both, lt-ltb, ltb-true, cases_lt, and_parts, and_from, false_from_ne_true}
use Rattle.std.proofs.lemmas.List.Elements.{All-head, All-tail}
use Rattle.bitcode_memory.specs.LittleEndian.{number_bytes}
use Rattle.bitcode_memory.specs.Ints.{IsNumber, residue, least, greatest}
use Rattle.bitcode_columns.specs.Tagged.{tag_of, plain_level, shifted_level, is_shifted, tagged_text}
use Rattle.bitcode_memory.specs.IntWidths.{IsWidth}
use Rattle.bitcode_columns.specs.IntColumn.{halvings, width_for, width_at_level, narrow_text, int_level_for, text_at_int_level}
use Rattle.bitcode_int_columns.specs.Narrowing.{above, plain_width, shifted_width}
use Rattle.bitcode_memory.proofs.IntLemmas.{least_below, greatest_above, distance_below, residue_at_most, residue_below}
use Rattle.bitcode_columns.proofs.TaggedLemmas.{least_among, greatest_among, apart_below, abs_below, not_negative, above_not_negative}
use Rattle.bitcode_columns.proofs.IntColumnLemmas.{some_width, width_for_fits, halvings_order, width_at_level_between, halvings_exact}
use Rattle.bitcode_int_columns.proofs.NarrowLemmas.{above_least, above_zero}

pub map_within : {X Y : Type 0} (f g : X → Y) (xs : List X) → All (λ x. f x ≡ g x) xs → map f xs ≡ map g xs
map_within f g [] each = refl
map_within f g (x ∷ xs) each =
    let first : f x ≡ g x = All-head (λ x. f x ≡ g x) x xs each in
    let later : map f xs ≡ map g xs = map_within f g xs (All-tail (λ x. f x ≡ g x) x xs each) in
    cc

-- ---- some entries of a width

pub record Entries (width : ℕ) (signed : Bool) (entries : List ℤ) : Type 0 where
  pub is_width : IsWidth width
  pub some : 1 ≤ length entries
  pub numbers : All (IsNumber width signed) entries

pub in_order : (entries : List ℤ) → 1 ≤ length entries → least entries ≤ℤ greatest entries
in_order entries some = least_among (λ e. e ≤ℤ greatest entries) entries some (greatest_above entries)

pub shifted_fits : (width : ℕ) (signed : Bool) (entries : List ℤ) → Entries width signed entries
    → IsWidth (shifted_width (least entries) (greatest entries))
    × (unsigned_abs (greatest entries -ℤ least entries) < 256 ^ shifted_width (least entries) (greatest entries))
    × (shifted_width (least entries) (greatest entries) ≤ width)
shifted_fits width signed entries e = width_for_fits width _ e.is_width
    (apart_below width signed (least entries) (greatest entries) (some_width width e.is_width)
    (least_among (IsNumber width signed) entries e.some e.numbers) (greatest_among (IsNumber width signed) entries e.some e.numbers)
    (in_order entries e.some))

pub plain_fits : (width : ℕ) (signed : Bool) (entries : List ℤ) → Entries width signed entries
    → IsWidth (plain_width width (least entries) (greatest entries)) × (plain_width width (least entries) (greatest entries) ≤ width)
plain_fits width signed entries e =
    cond_both (int_lt (least entries) (pos 0)) width (width_for (unsigned_abs (greatest entries))) (λ w. IsWidth w × (w ≤ width))
    (λ negative. (e.is_width, omega arith))
    (λ natural.
    let fits = width_for_fits width _ e.is_width (abs_below width signed (greatest entries)
    (above_not_negative (least entries) (greatest entries) (not_negative (least entries) natural) (in_order entries e.some))
    (greatest_among (IsNumber width signed) entries e.some e.numbers)) in
    (fits.0, fits.2))

-- ---- the narrow numbers

pub shifted_numbers : (width : ℕ) (signed : Bool) (entries : List ℤ) → Entries width signed entries
    → map (λ e. unsigned_abs (e -ℤ least entries)) entries
    ≡ map (λ e. above width (residue width (least entries)) e % 256 ^ shifted_width (least entries) (greatest entries)) entries
shifted_numbers width signed entries e =
    map_within (λ z. unsigned_abs (z -ℤ low)) (λ z. above width (residue width low) z % 256 ^ shifted_width low high) entries
    (λ k d i.
    let z : ℤ = get_or entries k d in
    let at_least : low ≤ℤ z = least_below entries k d i in
    let at_most : unsigned_abs (z -ℤ low) ≤ unsigned_abs (high -ℤ low) = distance_below low z high at_least (greatest_above entries k d i) in
    let same : above width (residue width low) z ≡ unsigned_abs (z -ℤ low) =
    above_least width signed low z (some_width width e.is_width) (least_among (IsNumber width signed) entries e.some e.numbers) (e.numbers k d i) at_least in
    let fits = shifted_fits width signed entries e in
    sym (mod-eq_of_lt (omega (arith, fits.1))) ∙ ap (λ n. n % 256 ^ shifted_width low high) (sym same))
  where
    low : ℤ
    low = least entries

    high : ℤ
    high = greatest entries

plain_below : (width : ℕ) (signed : Bool) (entries : List ℤ) → Entries width signed entries → (z : ℤ) → IsNumber width signed z
    → least entries ≤ℤ z → z ≤ℤ greatest entries → residue width z < 256 ^ plain_width width (least entries) (greatest entries)
plain_below width signed entries e z in_z low high =
    cond_both (int_lt (least entries) (pos 0)) width (width_for (unsigned_abs (greatest entries))) (λ w. residue width z < 256 ^ w)
    (λ negative. residue_below width signed z in_z)
    (λ natural.
    let bottom = not_negative (least entries) natural in
    let fits = width_for_fits width _ e.is_width (abs_below width signed (greatest entries)
    (above_not_negative (least entries) (greatest entries) bottom (in_order entries e.some))
    (greatest_among (IsNumber width signed) entries e.some e.numbers)) in
    let at_most : residue width z ≤ unsigned_abs (greatest entries) = residue_at_most width (least entries) z (greatest entries) bottom low high in
    omega (arith, fits.1))

pub plain_numbers : (width : ℕ) (signed : Bool) (entries : List ℤ) → Entries width signed entries
    → map (residue width) entries ≡ map (λ e. above width 0 e % 256 ^ plain_width width (least entries) (greatest entries)) entries
plain_numbers width signed entries e =
    map_within (residue width) (λ z. above width 0 z % 256 ^ plain_width width (least entries) (greatest entries)) entries
    (λ k d i. sym (mod-eq_of_lt (plain_below width signed entries e _ (e.numbers k d i) (least_below entries k d i) (greatest_above entries k d i)))
    ∙ ap (λ n. n % 256 ^ plain_width width (least entries) (greatest entries)) (sym (above_zero width signed _ (e.numbers k d i))))

-- ---- the levels

plain_level_is : (negative : Bool) (width narrow : ℕ) → cond negative 0 (halvings width - halvings narrow) ≡ halvings width - halvings (cond negative width narrow)
plain_level_is true width narrow = omega arith
plain_level_is false width narrow = refl

halvings_less : (narrow width : ℕ) → IsWidth narrow → IsWidth width → narrow < width → halvings narrow < halvings width
halvings_less narrow width is_narrow is_width h = ⊎_elim
    (λ below. below)
    (λ above. absurd (omega (
      arith,
      pow-le-pow_right {n = 2} (omega arith) {i = halvings width} {j = halvings narrow} above,
      halvings_exact narrow is_narrow,
      halvings_exact width is_width,
    )))
    (cases_lt (halvings narrow) (halvings width))

shifts : (width : ℕ) (signed : Bool) (entries : List ℤ) → Entries width signed entries → 5 < length entries
    → shifted_width (least entries) (greatest entries) < plain_width width (least entries) (greatest entries)
    → is_shifted (int_level_for width) entries ≡ true
shifts width signed entries e many h =
    let s = shifted_fits width signed entries e in
    let p = plain_fits width signed entries e in
    let less = halvings_less _ _ s.0 p.0 h in
    let order = halvings_order _ _ p.0 e.is_width p.1 in
    let level = plain_level_is (int_lt (least entries) (pos 0)) width (width_for (unsigned_abs (greatest entries))) in
    let first : ltb 5 (length entries) ≡ true = lt-ltb _ _ many in
    let second : ltb (plain_level (int_level_for width) entries) (shifted_level (int_level_for width) entries) ≡ true =
    lt-ltb _ _ (omega (arith, level, less, order)) in
    and_from _ _ first second

stays : (width : ℕ) (signed : Bool) (entries : List ℤ) → Entries width signed entries
    → (5 < length entries → shifted_width (least entries) (greatest entries) < plain_width width (least entries) (greatest entries) → ⊥)
    → is_shifted (int_level_for width) entries ≡ false
stays width signed entries e h = false_from_ne_true _ (λ shifted.
    let s = shifted_fits width signed entries e in
    let p = plain_fits width signed entries e in
    let parts = and_parts _ _ shifted in
    let level = plain_level_is (int_lt (least entries) (pos 0)) width (width_for (unsigned_abs (greatest entries))) in
    let lower : plain_level (int_level_for width) entries < shifted_level (int_level_for width) entries = ltb-true _ _ parts.1 in
    ⊎_elim (λ below. h (ltb-true _ _ parts.0) below)
    (λ above. absurd (omega (arith, level, lower, halvings_order _ _ p.0 s.0 above)))
    (cases_lt (shifted_width (least entries) (greatest entries)) (plain_width width (least entries) (greatest entries))))

-- ---- the text

pub shifted_text_is : (width : ℕ) (signed : Bool) (entries : List ℤ) → IsWidth width → 1 ≤ length entries → All (IsNumber width signed) entries → 5 < length entries
    → shifted_width (least entries) (greatest entries) < plain_width width (least entries) (greatest entries)
    → tagged_text width (int_level_for width) (text_at_int_level width) entries
    ≡ tag_of (halvings width - halvings (shifted_width (least entries) (greatest entries))) true
    ∷ (number_bytes width (residue width (least entries))
    ++ narrow_text (shifted_width (least entries) (greatest entries))
    (map (λ e. above width (residue width (least entries)) e % 256 ^ shifted_width (least entries) (greatest entries)) entries))
unfolding tagged_text
shifted_text_is width signed entries is_width some numbers many h =
    let e : Entries width signed entries = record { is_width = is_width; some = some; numbers = numbers } in
    let s = shifted_fits width signed entries e in
    let at_level : width_at_level width (halvings width - halvings (shifted_width (least entries) (greatest entries))) ≡ shifted_width (least entries) (greatest entries) =
    width_at_level_between width _ is_width s.0 s.2 in
    cond-true _ _ _ (shifts width signed entries e many h)
    ∙ ap (λ w. tag_of (halvings width - halvings (shifted_width (least entries) (greatest entries))) true
    ∷ (number_bytes width (residue width (least entries)) ++ narrow_text w (map (λ z. unsigned_abs (z -ℤ least entries)) entries))) at_level
    ∙ ap (λ ns. tag_of (halvings width - halvings (shifted_width (least entries) (greatest entries))) true
    ∷ (number_bytes width (residue width (least entries)) ++ narrow_text (shifted_width (least entries) (greatest entries)) ns)) (shifted_numbers width signed entries e)

pub plain_text_is : (width : ℕ) (signed : Bool) (entries : List ℤ) → IsWidth width → 1 ≤ length entries → All (IsNumber width signed) entries
    → (5 < length entries → shifted_width (least entries) (greatest entries) < plain_width width (least entries) (greatest entries) → ⊥)
    → tagged_text width (int_level_for width) (text_at_int_level width) entries
    ≡ tag_of (halvings width - halvings (plain_width width (least entries) (greatest entries))) false
    ∷ narrow_text (plain_width width (least entries) (greatest entries))
    (map (λ e. above width 0 e % 256 ^ plain_width width (least entries) (greatest entries)) entries)
unfolding tagged_text
plain_text_is width signed entries is_width some numbers h =
    let e : Entries width signed entries = record { is_width = is_width; some = some; numbers = numbers } in
    let p = plain_fits width signed entries e in
    let narrow : ℕ = plain_width width (least entries) (greatest entries) in
    let level : plain_level (int_level_for width) entries ≡ halvings width - halvings narrow =
    plain_level_is (int_lt (least entries) (pos 0)) width (width_for (unsigned_abs (greatest entries))) in
    let at_level : width_at_level width (halvings width - halvings narrow) ≡ narrow = width_at_level_between width _ is_width p.0 p.1 in
    cond-false _ _ _ (stays width signed entries e h)
    ∙ ap (λ l. tag_of l false ∷ narrow_text (width_at_level width l) (map (residue width) entries)) level
    ∙ ap (λ w. tag_of (halvings width - halvings narrow) false ∷ narrow_text w (map (residue width) entries)) at_level
    ∙ ap (λ ns. tag_of (halvings width - halvings narrow) false ∷ narrow_text narrow ns) (plain_numbers width signed entries e)
