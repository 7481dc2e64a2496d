-- Values whose entries are pushed behind those of a column, all of a slice at once.
use Rattle.std.proofs.Common.{◌≡◌, ℕ, ◌+◌, ◌<◌, List, [], ◌∷◌, ◌++◌, length, map, take, slice_index_or, sym, ap, subst, ◌∙◌, append_assoc}
use Rattle.std.proofs.lemmas.List.{map-append, take_more}
use Rattle.std.specs.List.{AllZip}
use Rattle.bitcode_shapes.specs.Datum.{Datum}
use Rattle.bitcode_shapes.specs.Shape.{Shape}
use Rattle.bitcode_coder.specs.Columns.{Kind, one, beside}
use Rattle.bitcode_coder.specs.Coder.{JoinsEach, written_columns}

-- values that are related to themselves
pub zip_itself : {A : Type 0} (R : A → A → Type 0) → ((x : A) → R x x) → (xs : List A) → AllZip R xs xs
zip_itself R same [] = tt
zip_itself R same (x ∷ xs) = (same x, zip_itself R same xs)

pub listed_as_data : {T Entry : Type 0} (lists : T → Datum → Type 0) (datum : Entry → Datum) (values : List T) (entries : List Entry)
    → AllZip (λ t entry. lists t (datum entry)) values entries → AllZip lists values (map datum entries)
listed_as_data lists datum [] [] h = tt
listed_as_data lists datum [] (entry ∷ entries) h = absurd h
listed_as_data lists datum (t ∷ values) [] h = absurd h
listed_as_data lists datum (t ∷ values) (entry ∷ entries) h = (h.0, listed_as_data lists datum values entries h.1)

-- an entry for each value was pushed
pub joins_entries : {T Entry : Type 0} (lists : T → Datum → Type 0) (shape : Shape) (kind : Kind) (datum : Entry → Datum) (values : List T) (entries old new : List Entry)
    → ((ds : List Datum) → written_columns shape ds ≡ one kind ds) → AllZip (λ t entry. lists t (datum entry)) values entries → new ≡ old ++ entries
    → JoinsEach lists shape values (one kind (map datum old)) (one kind (map datum new))
joins_entries lists shape kind datum values entries old new columns listed pushed = record {
  parts = map datum entries;
  listings = listed_as_data lists datum values entries listed;
  joined = subst (λ added. one kind (map datum new) ≡ beside (one kind (map datum old)) added) (sym (columns (map datum entries)))
      (ap (λ all. one kind (map datum all)) pushed ∙ ap (one kind) (map-append datum old entries));
  fits = λ fit. tt;
}

-- values that are their own entries were pushed
pub joins_themselves : {T : Type 0} (lists : T → Datum → Type 0) (shape : Shape) (kind : Kind) (datum : T → Datum) (values old new : List T)
    → ((ds : List Datum) → written_columns shape ds ≡ one kind ds) → ((t : T) → lists t (datum t)) → new ≡ old ++ values
    → JoinsEach lists shape values (one kind (map datum old)) (one kind (map datum new))
joins_themselves lists shape kind datum values old new columns listed pushed =
    joins_entries lists shape kind datum values values old new columns (zip_itself (λ t entry. lists t (datum entry)) listed values) pushed

-- a part of one item more was pushed
pub one_part_more : {A B : Type 0} (of : A → B) (items : List A) (i : ℕ) (item : A) (old now new : List B) → i < length items → item ≡ slice_index_or items i item
    → now ≡ old ++ map of (take i items) → new ≡ now ++ of item ∷ [] → new ≡ old ++ map of (take (i + 1) items)
one_part_more of items i item old now new here is front pushed =
    pushed ∙ ap (λ all. all ++ of item ∷ []) front ∙ append_assoc old (map of (take i items)) (of item ∷ [])
    ∙ ap (λ more. old ++ more)
    (sym (ap (map of) (take_more items i item here ∙ ap (λ t. take i items ++ t ∷ []) (sym is)) ∙ map-append of (take i items) (item ∷ [])))
