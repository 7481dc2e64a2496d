-- Where the first entries alone need the whole width, all do.
use Rattle.std.proofs.Common.{◌≡◌, ℕ, ◌^◌, ◌<◌, ◌≤◌, Bool, false, ◌&&◌, ℤ, pos, List, length, map, take, All, sym, ap, ◌∙◌, subst, arith}
use Rattle.std.specs.Prelude.{◌-ℤ◌, ◌≤ℤ◌, int_lt, unsigned_abs, nat_lt}
use Rattle.std.proofs.lemmas.Bool.{cond_both}
use Rattle.std.proofs.lemmas.Bool.Decides.{nat_tests}
use Rattle.std.proofs.lemmas.Int.{ints}
use Rattle.std.proofs.lemmas.List.{length-map, take-map}
use Rattle.std.proofs.lemmas.List.Elements.{All-take, All-map}
use Rattle.bitcode_memory.specs.Ints.{IsNumber, least, greatest}
use Rattle.bitcode_memory.specs.IntWidths.{IsWidth}
use Rattle.bitcode_columns.specs.IntColumn.{width_for}
use Rattle.bitcode_int_columns.specs.Narrowing.{plain_width, shifted_width}
use Rattle.bitcode_memory.proofs.IntLemmas.{least_below, greatest_above}
use Rattle.bitcode_columns.proofs.TaggedLemmas.{least_among, greatest_among, abs_below, not_negative, above_not_negative}
use Rattle.bitcode_columns.proofs.IntColumnLemmas.{width_for_fits}
use Rattle.bitcode_int_columns.proofs.WrittenLemmas.{Entries, in_order, shifted_fits, plain_fits}

apart_more : (low l h high : ℤ) → low ≤ℤ l → l ≤ℤ h → h ≤ℤ high → unsigned_abs (h -ℤ l) ≤ unsigned_abs (high -ℤ low)
apart_more low l h high below between above = omega (arith, ints)

abs_more : (low high : ℤ) → pos 0 ≤ℤ low → low ≤ℤ high → unsigned_abs (high -ℤ low) ≤ unsigned_abs high
abs_more low high natural order = omega (arith, ints)

-- the first entries lie no farther apart than all
front_apart : (entries : List ℤ) (k : ℕ) → 1 ≤ length (take k entries)
    → unsigned_abs (greatest (take k entries) -ℤ least (take k entries)) ≤ unsigned_abs (greatest entries -ℤ least entries)
front_apart entries k some =
    let front : List ℤ = take k entries in
    apart_more (least entries) (least front) (greatest front) (greatest entries)
    (least_among (λ e. least entries ≤ℤ e) front some (All-take (λ e. least entries ≤ℤ e) k entries (least_below entries)))
    (in_order front some)
    (greatest_among (λ e. e ≤ℤ greatest entries) front some (All-take (λ e. e ≤ℤ greatest entries) k entries (greatest_above entries)))

-- a greater number needs no narrower width
wider : (width less more : ℕ) → IsWidth width → less ≤ more → more < 256 ^ width → width_for less ≤ width
wider width less more is_width order h = (width_for_fits width less is_width (omega (arith, order, h))).2

pub whole_width : (width : ℕ) (signed : Bool) (entries : List ℤ) (k : ℕ) → Entries width signed entries → 1 ≤ length (take k entries)
    → shifted_width (least (take k entries)) (greatest (take k entries)) ≡ width
    → (plain_width width (least entries) (greatest entries) ≡ width) × (shifted_width (least entries) (greatest entries) ≡ width)
whole_width width signed entries k e some whole = (
  omega (arith, plain_least, (plain_fits width signed entries e).1),
  omega (arith, shifted_least, shifted.2),
)
  where
    shifted : IsWidth (shifted_width (least entries) (greatest entries))
        × (unsigned_abs (greatest entries -ℤ least entries) < 256 ^ shifted_width (least entries) (greatest entries))
        × (shifted_width (least entries) (greatest entries) ≤ width)
    shifted = shifted_fits width signed entries e

    shifted_least : width ≤ shifted_width (least entries) (greatest entries)
    shifted_least = subst (λ w. w ≤ shifted_width (least entries) (greatest entries)) whole
        (wider (shifted_width (least entries) (greatest entries)) (unsigned_abs (greatest (take k entries) -ℤ least (take k entries))) (unsigned_abs (greatest entries -ℤ least entries)) shifted.0 (front_apart entries k some) shifted.1)

    plain_least : width ≤ plain_width width (least entries) (greatest entries)
    plain_least =
        cond_both (int_lt (least entries) (pos 0)) width (width_for (unsigned_abs (greatest entries))) (λ w. width ≤ w)
        (λ negative. omega arith)
        (λ natural.
        let bottom = not_negative (least entries) natural in
        let order = in_order entries e.some in
        let fits = width_for_fits width (unsigned_abs (greatest entries)) e.is_width (abs_below width signed (greatest entries) (above_not_negative (least entries) (greatest entries) bottom order)
        (greatest_among (IsNumber width signed) entries e.some e.numbers)) in
        subst (λ w. w ≤ width_for (unsigned_abs (greatest entries))) whole
        (wider (width_for (unsigned_abs (greatest entries))) (unsigned_abs (greatest (take k entries) -ℤ least (take k entries))) (unsigned_abs (greatest entries)) fits.0
        (omega (arith, front_apart entries k some, abs_more (least entries) (greatest entries) bottom order)) fits.1))

-- the same of values that stand for numbers
pub sample_tells : {X : Type 0} (f : X → ℤ) (xs sample : List X) (k width narrow : ℕ) (signed : Bool) (low high : ℤ)
    → IsWidth width → 1 ≤ length xs → All (λ x. IsNumber width signed (f x)) xs → sample ≡ take k xs → 1 ≤ length sample
    → low ≡ least (map f sample) → high ≡ greatest (map f sample) → narrow ≡ shifted_width low high → narrow ≡ width
    → (plain_width width (least (map f xs)) (greatest (map f xs)) ≡ width) × (shifted_width (least (map f xs)) (greatest (map f xs)) ≡ width)
sample_tells f xs sample k width narrow signed low high is_width some numbers is_front any is_low is_high is_narrow whole =
    let entries : List ℤ = map f xs in
    let e : Entries width signed entries =
    record { is_width = is_width; some = omega (arith, length-map xs f); numbers = All-map (IsNumber width signed) f xs numbers } in
    let front : map f sample ≡ take k entries = ap (map f) is_front ∙ sym (take-map f k xs) in
    let first : shifted_width (least (take k entries)) (greatest (take k entries)) ≡ width =
    sym (is_narrow ∙ ap (λ z. shifted_width z high) is_low ∙ ap (shifted_width (least (map f sample))) is_high
    ∙ ap (λ l. shifted_width (least l) (greatest l)) front) ∙ whole in
    whole_width width signed entries k e (omega (arith, any, length-map sample f, ap length front)) first

pub none_narrower : (count width : ℕ) → (nat_lt 5 count && nat_lt width width) ≡ false
none_narrower count width = grind (arith, nat_tests)
