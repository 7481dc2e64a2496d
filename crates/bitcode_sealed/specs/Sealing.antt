-- What is sealed.
use Rattle.std.specs.Prelude.{◌≡◌, ℕ, List, ◌++◌}
use Rattle.bitcode_shapes.specs.Datum.{Datum}
use Rattle.bitcode_shapes.specs.Shape.{Shape}
use Rattle.bitcode_derive.specs.Whole.{IsEncodingOf}
use Rattle.bitcode_sealed.specs.declared.label.Label.{Label}
use Rattle.bitcode_sealed.specs.Layout.{sealed}

-- the bytes are what `encode` writes for the value, sealed
pub record IsSealingOf {T : Type 0} (lists : T → Datum → Type 0) (shape : Shape) (label : Label) (t : T) (bytes : List ℕ) : Type 0 where
  pub encoding : List ℕ
  pub whole : bytes ≡ sealed label encoding
  pub written : IsEncodingOf lists shape t encoding

-- the bytes are those from before, and behind them the value, sealed
pub record IsSealedBehind {T : Type 0} (lists : T → Datum → Type 0) (shape : Shape) (label : Label) (t : T) (before after : List ℕ) : Type 0 where
  pub sealing : List ℕ
  pub behind : after ≡ before ++ sealing
  pub is : IsSealingOf lists shape label t sealing
