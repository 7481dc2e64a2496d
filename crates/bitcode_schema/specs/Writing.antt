-- What writing several values of a node does.
use Rattle.std.specs.Prelude.{◌≡◌, ℕ, Option, List, ◌++◌, All, ◌⊎◌}
use Rattle.bitcode_memory.specs.declared.error.Reason.{Reason}
use Rattle.bitcode_memory.specs.declared.error.Reason.TheVariants.{OutOfMemory, NotOfTheShape}
use Rattle.bitcode_shapes.specs.Datum.{Datum}
use Rattle.bitcode_shapes.specs.Shape.{Shape, IsOf}
use Rattle.bitcode_coder.specs.Columns.{CountsFit}
use Rattle.bitcode_coder.specs.Spelling.{columns_bytes}
use Rattle.bitcode_coder.specs.Transposition.{columns_of}
use Rattle.bitcode_schema.specs.Views.{Hold}

-- the data are those of the items, and each is of the shape
pub record AreOf {A : Type 0} (content : A → Option Datum) (shape : Shape) (items : List A) (ds : List Datum) : Type 0 where
  pub held : Hold content items ds
  pub of_shape : All (IsOf shape) ds

-- The columns of the data of the items follow the bytes from before.
pub record Writes {A : Type 0} (content : A → Option Datum) (shape : Shape) (items : List A) (before after : List ℕ) : Type 0 where
  pub contents : List Datum
  pub are : AreOf content shape items contents
  pub counts : CountsFit (columns_of shape contents)
  pub written : after ≡ before ++ columns_bytes (columns_of shape contents)

-- some item has no datum of the shape
abbrev pub HasStranger : {A : Type 0} → (A → Option Datum) → Shape → List A → Type 0
HasStranger content shape items = (ds : List Datum) → AreOf content shape items ds → ⊥

-- why writing is refused: want of memory, or such an item
abbrev pub IsRefusal : Reason → Type 0 → Type 0
IsRefusal reason Stranger = (reason ≡ OutOfMemory) ⊎ ((reason ≡ NotOfTheShape) × Stranger)
