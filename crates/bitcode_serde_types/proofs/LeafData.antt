-- The content of a value that is a leaf.
use Rattle.std.proofs.Common.{◌≡◌, ℕ, ℤ, Bool, ◌<◌, pos, inl, inr, ◌∙◌, refl, arith}
use Rattle.std.specs.Char.{IsScalar}
use Rattle.std.proofs.Math.Utf8.{scalar_cases}
use Rattle.std.specs.Float.{binary32, binary64}
use lib.Ieee.{Float}
use Rattle.bitcode_shapes.specs.Datum.{number}
use Rattle.bitcode_shapes.specs.Floats.{float_number}
use Rattle.bitcode_coder.specs.Spelling.{natural, truth}
use Rattle.bitcode_untyped.proofs.LeafLemmas.{leaf_datum, rolled_entry}
use Rattle.bitcode_untyped.specs.ShapeTree.{char_tree, IsOf}
use Rattle.bitcode_untyped.specs.View.{datum_of}
use Rattle.bitcode_untyped.specs.declared.value.Value.TheOpen.{Value-F}
use Rattle.bitcode_untyped.specs.declared.value.Value.TheVariants as value

pub datum-Bool : (x : Bool) → datum_of (value.Bool x) ≡ truth x
datum-Bool x = leaf_datum (value.Bool x) _ (rolled_entry (Value-F.Bool x) (value.Bool x) (value.rolls-Bool x) ∙ refl)

pub datum-U8 : (x : ℕ) → datum_of (value.U8 x) ≡ natural x
datum-U8 x = leaf_datum (value.U8 x) _ (rolled_entry (Value-F.U8 x) (value.U8 x) (value.rolls-U8 x) ∙ refl)

pub datum-U16 : (x : ℕ) → datum_of (value.U16 x) ≡ natural x
datum-U16 x = leaf_datum (value.U16 x) _ (rolled_entry (Value-F.U16 x) (value.U16 x) (value.rolls-U16 x) ∙ refl)

pub datum-U32 : (x : ℕ) → datum_of (value.U32 x) ≡ natural x
datum-U32 x = leaf_datum (value.U32 x) _ (rolled_entry (Value-F.U32 x) (value.U32 x) (value.rolls-U32 x) ∙ refl)

pub datum-U64 : (x : ℕ) → datum_of (value.U64 x) ≡ natural x
datum-U64 x = leaf_datum (value.U64 x) _ (rolled_entry (Value-F.U64 x) (value.U64 x) (value.rolls-U64 x) ∙ refl)

pub datum-U128 : (x : ℕ) → datum_of (value.U128 x) ≡ natural x
datum-U128 x = leaf_datum (value.U128 x) _ (rolled_entry (Value-F.U128 x) (value.U128 x) (value.rolls-U128 x) ∙ refl)

pub datum-I8 : (x : ℤ) → datum_of (value.I8 x) ≡ number x
datum-I8 x = leaf_datum (value.I8 x) _ (rolled_entry (Value-F.I8 x) (value.I8 x) (value.rolls-I8 x) ∙ refl)

pub datum-I16 : (x : ℤ) → datum_of (value.I16 x) ≡ number x
datum-I16 x = leaf_datum (value.I16 x) _ (rolled_entry (Value-F.I16 x) (value.I16 x) (value.rolls-I16 x) ∙ refl)

pub datum-I32 : (x : ℤ) → datum_of (value.I32 x) ≡ number x
datum-I32 x = leaf_datum (value.I32 x) _ (rolled_entry (Value-F.I32 x) (value.I32 x) (value.rolls-I32 x) ∙ refl)

pub datum-I64 : (x : ℤ) → datum_of (value.I64 x) ≡ number x
datum-I64 x = leaf_datum (value.I64 x) _ (rolled_entry (Value-F.I64 x) (value.I64 x) (value.rolls-I64 x) ∙ refl)

pub datum-I128 : (x : ℤ) → datum_of (value.I128 x) ≡ number x
datum-I128 x = leaf_datum (value.I128 x) _ (rolled_entry (Value-F.I128 x) (value.I128 x) (value.rolls-I128 x) ∙ refl)

pub datum-F32 : (x : Float) → datum_of (value.F32 x) ≡ number (float_number binary32 x)
datum-F32 x = leaf_datum (value.F32 x) _ (rolled_entry (Value-F.F32 x) (value.F32 x) (value.rolls-F32 x) ∙ refl)

pub datum-F64 : (x : Float) → datum_of (value.F64 x) ≡ number (float_number binary64 x)
datum-F64 x = leaf_datum (value.F64 x) _ (rolled_entry (Value-F.F64 x) (value.F64 x) (value.rolls-F64 x) ∙ refl)

-- ---- chars

scalar_below : (c : ℕ) → IsScalar c → c < 4294967296
scalar_below c h = elim (scalar_cases c h) [ inl low ↦ omega (arith, low) | inr high ↦ let top = high.1 in omega (arith, top) ]

pub char_is : (c : ℕ) → IsScalar c → IsOf char_tree (natural c)
char_is c h = (record { value = pos c; is = refl; in_width = scalar_below c h; in_allowed = tt }, h)
