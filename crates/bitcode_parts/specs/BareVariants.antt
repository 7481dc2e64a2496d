-- What the coders of enums without payloads hold.
use Rattle.std.specs.Prelude.{◌≡◌, ℕ, zero, suc, List, [], ◌∷◌, map, cond, ltb}
use Rattle.std.proofs.Common.{refl, ap, ap₂, sym, ◌∙◌}
use Rattle.bitcode_shapes.specs.Datum.{Datum, choice, unit}
use Rattle.bitcode_shapes.specs.Shape.{Shape}
use Rattle.bitcode_shapes.specs.BareVariants.{unit_shapes, bare_shape}
use Rattle.bitcode_shapes.specs.LawfulBareVariants.{count-unit_shapes}
use Rattle.bitcode_coder.specs.Columns.{Columns, no_columns, one, two, variants, emptied, plain}
use Rattle.bitcode_coder.specs.Coder.{written_columns}
use Rattle.bitcode_coder.specs.Spelling.{natural}
use Rattle.bitcode_coder.specs.Transposition.{payload_columns}

-- the choices among so many variants, up to the first one that is no such variant
abbrev pub bare_choices : ℕ → List ℕ → List Datum
bare_choices count [] = []
bare_choices count (variant ∷ more) = cond (ltb variant count) (choice variant unit ∷ bare_choices count more) []

-- the columns of so many variants without payloads
abbrev pub bare_payloads : ℕ → Columns
bare_payloads zero = no_columns
bare_payloads (suc count) = two no_columns (bare_payloads count)

-- the columns of an enum of so many variants
abbrev pub bare_columns : ℕ → List ℕ → Columns
bare_columns count entries = two (one (variants count) (map natural entries)) (bare_payloads count)

-- ---- the law of the encoder

pub emptied-bare_payloads : (count : ℕ) → emptied (bare_payloads count) ≡ bare_payloads count
emptied-bare_payloads zero = refl
emptied-bare_payloads (suc count) = ap (two no_columns) (emptied-bare_payloads count)

pub written-bare_payloads : (count index : ℕ) (ds : List Datum) → plain (payload_columns (unit_shapes count) index ds) ≡ bare_payloads count
written-bare_payloads zero index ds = refl
written-bare_payloads (suc count) index ds = ap (two no_columns) (written-bare_payloads count (suc index) ds)

pub bare_of_shape : (count : ℕ) (entries : List ℕ) {shape : Shape} → shape ≡ bare_shape count → emptied (bare_columns count entries) ≡ written_columns shape []
bare_of_shape count entries is =
    ap₂ (λ n payloads. two (one (variants n) []) payloads) (sym (count-unit_shapes count))
    (emptied-bare_payloads count ∙ sym (written-bare_payloads count 0 []))
    ∙ ap (λ s. written_columns s []) (sym is)
