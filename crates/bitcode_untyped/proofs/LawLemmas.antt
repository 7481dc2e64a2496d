-- The laws in the words of their contracts, and what the reader's machine has to do with them.
use Rattle.std.proofs.Common.{◌≡◌, ℕ, ◌*◌, ◌≤◌, List, [], ◌++◌, length, sym, ◌∙◌, subst, arith, zero-add}
use Rattle.bitcode_shapes.specs.Datum.{Datum}
use Rattle.bitcode_untyped.specs.Bounds.{element_count, IsLimited}
use Rattle.bitcode_untyped.specs.Laws.{SpellsOnce, DatumTakesAnEighth, ElementsAreBounded, ReadsBackDatum}
use Rattle.bitcode_untyped.specs.Machine.{State, start, Takes}
use Rattle.bitcode_untyped.specs.PlacedColumns.{columns_of, entry_count}
use Rattle.bitcode_untyped.specs.Runs.{Runs}
use Rattle.bitcode_untyped.specs.ShapeTree.{ShapeTree, IsOf, IsSound}
use Rattle.bitcode_untyped.specs.Spelling.{SpellsDatum}
use Rattle.bitcode_untyped.specs.Walk.{walk}
use Rattle.bitcode_untyped.proofs.SoundLemmas.{Spelled, sound}
use Rattle.bitcode_untyped.proofs.KindLemmas.{kinded}
use Rattle.bitcode_untyped.proofs.CompleteLemmas.{complete}
use Rattle.bitcode_untyped.proofs.OnceLemmas.{one_datum}
use Rattle.bitcode_untyped.proofs.BoundLemmas.{bounded}
use Rattle.bitcode_untyped.proofs.EntryLemmas.{sound_columns, entered, columns_entered}
use Rattle.bitcode_untyped.proofs.SpellingLemmas.{each_from_spelled, spelled_from_each, count_entries, count-le-entry_count, count-columns, size_bound, texts_spell}

-- ---- the machine

-- where it runs along the whole walk of a datum, the bytes that it took spell the datum
pub run_spells : (s : ShapeTree) (d : Datum) (bytes : List ℕ) (b : State) → IsOf s d → IsLimited s d
    → Runs Takes (start bytes) (walk s [] d) b → (piece : List ℕ) × (bytes ≡ piece ++ b.rest) × SpellsDatum s piece d
run_spells s d bytes b of limited r =
    let e = each_from_spelled (columns_of s d) bytes b.rest (sound s d bytes b r) in
    (e.0, e.1, record { of_shape = of; limited = limited; columns = e.2 })

-- where a front spells a datum, it runs along the whole walk and leaves the rest
pub spelled_runs : (s : ShapeTree) (d : Datum) (piece rest : List ℕ) → SpellsDatum s piece d
    → (b : State) × Runs Takes (start (piece ++ rest)) (walk s [] d) b × (b.rest ≡ rest)
spelled_runs s d piece rest h = complete s d (piece ++ rest) rest (spelled_from_each (columns_of s d) piece rest h.columns)

-- ---- the laws

pub spells_once : (s : ShapeTree) → SpellsOnce s
spells_once s piece other rest left d e h k same =
    let a = spelled_from_each (columns_of s d) piece rest h.columns in
    let b = spelled_from_each (columns_of s e) other left k.columns in
    one_datum s d e (piece ++ rest) rest left h.of_shape k.of_shape a (subst (λ x. Spelled x (columns_of s e) left) (sym same) b)

pub datum_takes_an_eighth : (s : ShapeTree) → IsSound s → DatumTakesAnEighth s
datum_takes_an_eighth s good bytes d h = size_bound (columns_of s d) bytes (sound_columns s good d) h.columns

pub count_bound : (s : ShapeTree) (d : Datum) → IsOf s d → IsLimited s d → element_count d ≤ 65537 * entry_count (columns_of s d)
count_bound s d of limited =
    let b = bounded s [] d of limited in
    let n : count_entries (columns_of s d) ≡ length (walk s [] d) = count-columns (walk s [] d) [] ∙ zero-add (length (walk s [] d)) in
    omega (arith, b, n, count-le-entry_count (columns_of s d))

pub elements_are_bounded : (s : ShapeTree) → IsSound s → ElementsAreBounded s
elements_are_bounded s good = record {
  by_entries = count_bound s;
  by_bytes = λ bytes d h. let b = count_bound s d h.of_shape h.limited in let e = datum_takes_an_eighth s good bytes d h in omega (arith, b, e);
}

pub reads_back_datum : (s : ShapeTree) → IsSound s → ReadsBackDatum s
reads_back_datum s good d of limited below = record {
  of_shape = of;
  limited = limited;
  columns = texts_spell (columns_of s d) (sound_columns s good d) (columns_entered s (walk s [] d) (kinded s [] d) (entered s [] d of)) below;
}
