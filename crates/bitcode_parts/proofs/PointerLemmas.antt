-- What lists that which pointers point to lists the pointers.
use Rattle.std.proofs.Common.{◌≡◌, List, [], ◌∷◌, map, sym, subst}
use Rattle.std.specs.List.{AllZip}
use Rattle.bitcode_shapes.specs.Datum.{Datum}
use Rattle.bitcode_shapes.specs.Shape.{Shape}
use Rattle.bitcode_coder.specs.Columns.{Columns, beside, CountsFit}
use Rattle.bitcode_coder.specs.Coder.{ListsAsToo, written_columns, JoinsEach, OverflowsWithEach}

module _ {S P T : Type 0} (lists : P → Datum → Type 0) (target_lists : T → Datum → Type 0) (points_to : P → T)
    (too : (p : P) → ListsAsToo lists target_lists p (points_to p)) (of : S → P) where
  pointers_listed : (items : List S) (ds : List Datum) → AllZip target_lists (map (λ s. points_to (of s)) items) ds → AllZip lists (map of items) ds
  pointers_listed [] [] z = tt
  pointers_listed [] (d ∷ ds) z = absurd z
  pointers_listed (s ∷ items) [] z = absurd z
  pointers_listed (s ∷ items) (d ∷ ds) z = (too (of s) d z.0, pointers_listed items ds z.1)

  module _ (shape target_shape : Shape) (same : shape ≡ target_shape) (items : List S) (old : Columns) where
    pub joins_pointers : (new : Columns) → JoinsEach target_lists target_shape (map (λ s. points_to (of s)) items) old new
        → JoinsEach lists shape (map of items) old new
    joins_pointers new each = record {
      parts = each.parts;
      listings = pointers_listed items each.parts each.listings;
      joined = subst (λ s. new ≡ beside old (written_columns s each.parts)) (sym same) each.joined;
      fits = each.fits;
    }

    pub overflows_pointers : OverflowsWithEach target_lists target_shape (map (λ s. points_to (of s)) items) old → OverflowsWithEach lists shape (map of items) old
    overflows_pointers each = record {
      parts = each.parts;
      listings = pointers_listed items each.parts each.listings;
      overflows = λ fits. each.overflows (subst (λ s. CountsFit (beside old (written_columns s each.parts))) same fits);
    }
