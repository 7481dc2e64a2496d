-- Integers and bytes of texts that are pushed behind those of a column, and the bytes of a column of integers.
use Rattle.std.specs.List.{AllZip}
use Rattle.std.proofs.Common.{◌≡◌, ℕ, ℤ, ◌+◌, List, [], ◌∷◌, ◌++◌, map, refl, sym, ap, subst, ◌∙◌, append_assoc, append-nil, Bool}
use Rattle.bitcode_columns.specs.IntColumn.{int_text}
use Rattle.bitcode_shapes.specs.Datum.{Datum, number}
use Rattle.bitcode_shapes.specs.Ints.{ListsNumber}
use Rattle.bitcode_shapes.specs.Shape.{Shape}
use Rattle.bitcode_coder.specs.Columns.{one, beside, ints, Kind}
use Rattle.bitcode_coder.specs.Coder.{written_columns, WritesEach, JoinsEach}
use Rattle.bitcode_coder.proofs.EachLemmas.{AllZip-append}
use Rattle.bitcode_coder.proofs.IntLemmas.{numbers_in}
use Rattle.bitcode_coder.proofs.PushingLemmas.{listed_as_data, zip_itself, joins_entries}
use Rattle.bitcode_coder.proofs.OneValueLemmas.{entries_in}
use Rattle.bitcode_ints.specs.Int.{PushesInts, WritesInts}

-- integers that stand for themselves
pub pushes_themselves : {I : Type 0} (value : I → ℤ) (values old new : List I) → new ≡ old ++ values → PushesInts (ListsNumber value) value values old new
pushes_themselves value values old new pushed = record {
  ints = values;
  pushed = pushed;
  stand = zip_itself (λ t int. ListsNumber value t (number (value int))) (λ t. refl) values;
}

-- the column of integers that stand for themselves
pub writes_themselves : {I : Type 0} (width : ℕ) (value : I → ℤ) (values : List I) (before after : List ℕ) → after ≡ before ++ int_text width (map value values)
    → WritesInts (ListsNumber value) width value values before after
writes_themselves width value values before after written = record {
  ints = values;
  stand = zip_itself (λ t int. ListsNumber value t (number (value int))) (λ t. refl) values;
  written = written;
}

module _ {T I : Type 0} (lists : T → Datum → Type 0) (value : I → ℤ) where
  pub pushes_none : (old : List I) → PushesInts lists value [] old old
  pushes_none old = record { ints = []; pushed = sym (append-nil old); stand = tt }

  pub pushes_one_more : (before after : List T) (t : T) (int : I) (old now new : List I) → PushesInts lists value before old now → lists t (number (value int))
      → new ≡ now ++ int ∷ [] → after ≡ before ++ t ∷ [] → PushesInts lists value after old new
  pushes_one_more before after t int old now new front listed pushed grown = record {
    ints = front.ints ++ int ∷ [];
    pushed = pushed ∙ ap (λ all. all ++ int ∷ []) front.pushed ∙ append_assoc old front.ints (int ∷ []);
    stand =
        subst (λ all. AllZip (λ t int. lists t (number (value int))) all (front.ints ++ int ∷ [])) (sym grown)
        (AllZip-append (λ t int. lists t (number (value int))) before (t ∷ []) front.ints (int ∷ []) front.stand (listed, tt));
  }

-- the column of an integer for each value was written
pub writes_ints : {T I : Type 0} (lists : T → Datum → Type 0) (shape : Shape) (width : ℕ) (signed : Bool) (value : I → ℤ) (values : List T) (held : List Datum)
    (before after : List ℕ) → ((ds : List Datum) → written_columns shape ds ≡ one (ints width signed) ds) → one (ints width signed) held ≡ one (ints width signed) []
    → WritesInts lists width value values before after → WritesEach lists shape values (one (ints width signed) held) before after
writes_ints lists shape width signed value values held before after columns none all =
    let entries = map (λ int. number (value int)) all.ints in
    record {
      new = one (ints width signed) entries;
      joined = record {
        parts = entries;
        listings = listed_as_data lists (λ int. number (value int)) values all.ints all.stand;
        joined = subst (λ added. one (ints width signed) entries ≡ beside (one (ints width signed) held) added) (sym (columns entries))
            (sym (ap (λ held. one (ints width signed) (held ++ entries)) (ap entries_in none)));
        fits = λ fit. tt;
      };
      written = all.written ∙ ap (λ numbers. before ++ int_text width numbers) (sym (numbers_in value all.ints));
    }

zip_made : {A B : Type 0} (R : A → B → Type 0) (made : A → B) → ((x : A) → R x (made x)) → (xs : List A) → AllZip R xs (map made xs)
zip_made R made each [] = tt
zip_made R made each (x ∷ xs) = (each x, zip_made R made each xs)

-- an entry that is made of each value was pushed
pub joins_made : {T Entry : Type 0} (lists : T → Datum → Type 0) (shape : Shape) (kind : Kind) (datum : Entry → Datum) (entry_of : T → Entry) (values : List T) (old new : List Entry)
    → ((ds : List Datum) → written_columns shape ds ≡ one kind ds) → ((t : T) → lists t (datum (entry_of t))) → new ≡ old ++ map entry_of values
    → JoinsEach lists shape values (one kind (map datum old)) (one kind (map datum new))
joins_made lists shape kind datum entry_of values old new columns listed pushed =
    joins_entries lists shape kind datum values (map entry_of values) old new columns (zip_made (λ t entry. lists t (datum entry)) entry_of listed values) pushed
