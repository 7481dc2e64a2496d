-- The bits of floats.
use Rattle.std.proofs.Common.{◌≡◌, ℕ, ◌*◌, ◌<◌, List, [], ◌∷◌, map, All, T, refl, ap}
use Rattle.std.specs.Prelude.{to_bits, from_bits}
use Rattle.std.proofs.lemmas.List.Elements.{All-nil, All-cons, All-head, All-tail}
use Rattle.std.specs.Float.{Float, Format}
use lib.Ieee.{fits, top}
use lib.Ieee.Bits.{of_bits-to_bits, of_bits-fits, to_bits-lt}
use Rattle.bitcode_float_columns.specs.FloatColumn.{canonical}

-- a float has its bits, and they are those that are written for it
pub to_bits-canonical : (f : Format) (x : Float) → T (fits f x) → canonical f (to_bits f x) ≡ to_bits f x
to_bits-canonical f x held = ap (to_bits f) (of_bits-to_bits f x held)

-- canonical bits fit
pub canonical_below : (f : Format) (bits : ℕ) → canonical f bits < 2 * top f
canonical_below f bits = to_bits-lt f (from_bits f bits) (of_bits-fits f bits)

-- bits that are canonical are unchanged
pub canonical_each : (f : Format) (bits : List ℕ) → All (λ b. canonical f b ≡ b) bits → map (canonical f) bits ≡ bits
canonical_each f [] each = refl
canonical_each f (b ∷ bits) each =
    let first : canonical f b ≡ b = All-head (λ b. canonical f b ≡ b) b bits each in
    let rest : map (canonical f) bits ≡ bits = canonical_each f bits (All-tail (λ b. canonical f b ≡ b) b bits each) in
    cc

pub each_canonical : (f : Format) (bits : List ℕ) → map (canonical f) bits ≡ bits → All (λ b. canonical f b ≡ b) bits
each_canonical f [] same = All-nil (λ b. canonical f b ≡ b)
each_canonical f (b ∷ bits) same =
    let first : canonical f b ≡ b = cc same in
    let rest : map (canonical f) bits ≡ bits = cc same in
    All-cons (λ b. canonical f b ≡ b) b bits first (each_canonical f bits rest)
