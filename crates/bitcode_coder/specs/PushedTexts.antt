-- Texts that are appended to those of a column.
use Rattle.std.specs.Prelude.{◌≡◌, ℕ, List, ◌++◌}
use Rattle.std.specs.List.{AllZip}
use Rattle.bitcode_memory.specs.declared.fast.vec.FastVec.{FastVec}
use Rattle.bitcode_memory.specs.Fast.{fast_items}
use Rattle.bitcode_shapes.specs.Datum.{Datum, text}
use Rattle.bitcode_coder.specs.declared.length.encoder.LengthEncoder.{LengthEncoder}
use Rattle.bitcode_coder.specs.Cutting.{cut}
use Rattle.bitcode_coder.specs.Length.{written_lengths}

-- the texts of which these are the lengths and, joined, the bytes
abbrev pub texts_in : LengthEncoder → FastVec ℕ → List (List ℕ)
texts_in lengths bytes = cut (written_lengths lengths) (fast_items bytes)

-- one text for each value was pushed
pub record PushesTexts {T : Type 0} (lists : T → Datum → Type 0) (values : List T) (old new : List (List ℕ)) : Type 0 where
  pub texts : List (List ℕ)
  pub pushed : new ≡ old ++ texts
  pub stand : AllZip (λ t bytes. lists t (text bytes)) values texts
