-- The laws of strict spelling.
use Rattle.std.proofs.Common.{◌≡◌, ℕ, List, refl, subst, ◌∙◌}
use Rattle.std.specs.Prelude.{All}
use Rattle.bitcode_shapes.specs.Datum.{Datum}
use Rattle.bitcode_shapes.specs.Shape.{Shape, IsSound, IsOf}
use Rattle.bitcode_coder.specs.Columns.{Columns, no_columns, one, two, arrays, CountsFit}
use Rattle.bitcode_coder.specs.Transposition.{columns_of, spread}
use Rattle.bitcode_coder.specs.Spelling.{Spells, columns_bytes, texts_of, LengthsBelowLimit}
use Rattle.bitcode_coder.specs.Strict.{StrictlySpells, StrictlySpellsColumns}
use Rattle.bitcode_coder.proofs.ColumnLemmas.{column_bytes-spells}
use Rattle.bitcode_coder.proofs.LawLemmas.{texts_of-spread}
use Rattle.bitcode_coder.proofs.SpellingLemmas.{AreSoundKinds, AreEntries, AreSoundKinds-columns_of, AreEntries-columns_of}
use Rattle.bitcode_coder.proofs.StrictLemmas.{strict_text, strict_spells}

pub strict_is_text : (shape : Shape) (piece : List ℕ) (ds : List Datum) → StrictlySpells shape piece ds → Spells shape piece ds × (piece ≡ texts_of (spread shape ds))
strict_is_text shape piece ds s = (
  record { of_shape = s.of_shape; counts = s.counts; columns = strict_spells (columns_of shape ds) piece s.columns },
  strict_text (columns_of shape ds) piece s.columns ∙ texts_of-spread shape ds,
)

texts_strictly : (a : Columns) → AreSoundKinds a → AreEntries a → LengthsBelowLimit a → StrictlySpellsColumns a (columns_bytes a)
texts_strictly no_columns sound each below = refl
texts_strictly (one kind entries) sound each below = record { spelled = column_bytes-spells kind sound entries each below; written = refl }
texts_strictly (two first second) sound each below = record {
  front = columns_bytes first;
  back = columns_bytes second;
  whole = refl;
  first = texts_strictly first sound.0 each.0 below.0;
  second = texts_strictly second sound.1 each.1 below.1;
}
texts_strictly (arrays size count elements) sound each below = texts_strictly elements sound each below

pub written_strictly : (shape : Shape) → IsSound shape → (ds : List Datum) → All (IsOf shape) ds → CountsFit (columns_of shape ds) → LengthsBelowLimit (columns_of shape ds)
    → StrictlySpells shape (texts_of (spread shape ds)) ds
written_strictly shape sound ds each counts below =
    subst (λ bytes. StrictlySpells shape bytes ds) (texts_of-spread shape ds) (record {
      of_shape = each;
      counts = counts;
      columns = texts_strictly (columns_of shape ds) (AreSoundKinds-columns_of shape sound ds) (AreEntries-columns_of shape ds each) below;
    })
