-- Writing and reading fields of one shape.
use Rattle.std.proofs.Common.{◌≡◌, ◌≢◌, ℕ, zero, suc, ◌+◌, ◌≤◌, ◌<◌, Bool, true, false, ◌&&◌, List, [], ◌∷◌, ◌++◌, length, map, take, drop, slice_get, Some, refl, ap, sym, subst, ◌∙◌, arith, add-one, zero-add}
use Rattle.std.specs.Prelude.{Result, Ok, Err}
use Rattle.std.proofs.lemmas.List.{take-append-drop, length-take-le}
use Rattle.bitcode_memory.specs.declared.error.Error.{Error}
use Rattle.bitcode_shapes.specs.Datum.{Datum, Data, no_data, datum_and, data_of}
use Rattle.bitcode_untyped.specs.Bounds.{column_free, all_free}
use Rattle.bitcode_untyped.specs.ShapeTree.{ShapeTree, ShapeTrees, no_trees, tree_and}
use Rattle.bitcode_serde.specs.Serializing.{Outcome}
use Rattle.bitcode_serde.specs.declared.writer.state.Writer.{Writer}
use Rattle.bitcode_serde.proofs.WalkLemmas.{take_entry}
use Rattle.bitcode_serde_types.specs.Arrays.{repeated, array_tree, array_datum}
use Rattle.bitcode_serde_types.specs.DeepFaults.{deep_faults, deep_faults_of_fields}
use Rattle.bitcode_serde_types.specs.FieldsWritten.{tree_count}
use Rattle.bitcode_serde_types.specs.Joined.{joined, joined_data, data_count}
use Rattle.bitcode_serde_types.proofs.FieldLemmas.{tuple_outcome}
use Rattle.bitcode_serde_types.proofs.JoinedLemmas.{TreesOutcome, front_refused, parts_written}

pub repeated_count : (n : ℕ) (s : ShapeTree) → tree_count (repeated n s) ≡ n
repeated_count zero s = refl
repeated_count (suc n) s = ap suc (repeated_count n s)

-- several of them are without columns if one is
several_free : (n : ℕ) (s : ShapeTree) → column_free s ≡ all_free (repeated (suc n) s)
several_free zero s = both (column_free s)
  where
    both : (b : Bool) → b ≡ b && true
    both true = refl
    both false = refl
several_free (suc n) s = both (column_free s) (all_free (repeated (suc n) s)) (several_free n s)
  where
    both : (b c : Bool) → b ≡ c → b ≡ b && c
    both true c e = e
    both false c e = refl

pub repeated_free : (n : ℕ) (s : ShapeTree) → n ≢ 0 → column_free s ≡ all_free (repeated n s)
repeated_free zero s h = absurd (h refl)
repeated_free (suc n) s h = several_free n s

module _ {A : Type 0} (s : ShapeTree) (f : A → Datum) where
  abbrev trees : List A → ShapeTrees
  trees xs = repeated (length xs) s

  abbrev contents : List A → Data
  contents xs = data_of (map f xs)

  trees_joined : (xs ys : List A) → joined (trees xs) (trees ys) ≡ trees (xs ++ ys)
  trees_joined [] ys = refl
  trees_joined (x ∷ xs) ys = ap (tree_and s) (trees_joined xs ys)

  data_joined : (xs ys : List A) → joined_data (contents xs) (contents ys) ≡ contents (xs ++ ys)
  data_joined [] ys = refl
  data_joined (x ∷ xs) ys = ap (datum_and (f x)) (data_joined xs ys)

  as_many : (xs : List A) → data_count (contents xs) ≡ tree_count (trees xs)
  as_many [] = refl
  as_many (x ∷ xs) = ap suc (as_many xs)

  -- the first fields of so many of a tuple were written, or one of them was refused
  abbrev pub AlikeOutcome : {B : Type 0} → Writer → ℕ → ℕ → List A → Result B Error → Writer → Type 0
  AlikeOutcome old n fields xs r new = TreesOutcome old (trees xs) n 0 fields (contents xs) r new

  at_joined : {B : Type 0} (old new : Writer) (n fields : ℕ) (xs ys : List A) (r : Result B Error)
      → TreesOutcome old (joined (trees xs) (trees ys)) n 0 fields (joined_data (contents xs) (contents ys)) r new → AlikeOutcome old n fields (xs ++ ys) r new
  at_joined old new n fields xs ys r o =
      subst (λ ss. TreesOutcome old ss n 0 fields (contents (xs ++ ys)) r new) (trees_joined xs ys)
      (subst (λ ds. TreesOutcome old (joined (trees xs) (trees ys)) n 0 fields ds r new) (data_joined xs ys) o)

  -- one more
  pub alike_more : {B C : Type 0} (old mid new : Writer) (n fields : ℕ) (xs : List A) (x : A) (b : B) (r : Result C Error)
      → AlikeOutcome old n fields xs (Ok b) mid → n ≤ length old.places.below.items
      → TreesOutcome mid (tree_and s no_trees) n (length xs) fields (datum_and (f x) no_data) r new → AlikeOutcome old n fields (xs ++ x ∷ []) r new
  alike_more old mid new n fields xs x b r first inside o =
      let e : length xs ≡ 0 + tree_count (trees xs) = sym (zero-add (tree_count (trees xs)) ∙ repeated_count (length xs) s) in
      at_joined old new n fields xs (x ∷ []) r
      (parts_written old mid (trees xs) (trees (x ∷ [])) n 0 fields (contents xs) (contents (x ∷ [])) b first inside r new
      (subst (λ i. TreesOutcome mid (tree_and s no_trees) n i fields (datum_and (f x) no_data) r new) e o))

  -- one of the first was refused
  pub alike_refused : {B C : Type 0} (old new : Writer) (n fields : ℕ) (xs ys : List A) (e : Error) → AlikeOutcome {B = B} old n fields xs (Err e) new
      → AlikeOutcome {B = C} old n fields (xs ++ ys) (Err e) new
  alike_refused old new n fields xs ys e o =
      at_joined old new n fields xs ys (Err e) (front_refused old new (trees xs) (trees ys) n 0 fields (contents xs) (contents ys) e (as_many xs) o)

  -- ---- all elements of a list

  module _ (xs : List A) (old : Writer) (n : ℕ) where
    pub all_alike : (r : Result (Unit {0}) Error) (new : Writer) → AlikeOutcome old n (length xs) xs r new
        → Outcome old (array_tree (length xs) s) n (array_datum f xs) (deep_faults (array_tree (length xs) s) (array_datum f xs)) r new
    all_alike r new o =
        tuple_outcome old new (trees xs) n (contents xs) (deep_faults_of_fields (trees xs) (contents xs)) r
        (subst (λ k. TreesOutcome old (trees xs) n 0 k (contents xs) r new) (sym (repeated_count (length xs) s)) o)

    pub first_written : (i : ℕ) (x : A) (mid new : Writer) → i < length xs → slice_get xs i ≡ Some x → AlikeOutcome old n (length xs) (take i xs) (Ok (tt {0})) mid
        → n ≤ length old.places.below.items
        → TreesOutcome {A = Unit {0}} mid (tree_and s no_trees) n i (length xs) (datum_and (f x) no_data) (Ok (tt {0})) new
        → AlikeOutcome old n (length xs) (take (i + 1) xs) (Ok (tt {0})) new
    first_written i x mid new lt there so_far inside o =
        subst (λ ys. AlikeOutcome old n (length xs) ys (Ok (tt {0})) new) (sym (ap (λ j. take j xs) (add-one i) ∙ take_entry xs i x there))
        (alike_more old mid new n (length xs) (take i xs) x tt (Ok (tt {0})) so_far inside
        (subst (λ j. TreesOutcome mid (tree_and s no_trees) n j (length xs) (datum_and (f x) no_data) (Ok (tt {0})) new) (sym (length-take-le i xs (omega (arith, lt)))) o))

    pub one_refused : (i : ℕ) (x : A) (mid new : Writer) (e : Error) → i < length xs → slice_get xs i ≡ Some x
        → AlikeOutcome old n (length xs) (take i xs) (Ok (tt {0})) mid → n ≤ length old.places.below.items
        → TreesOutcome {A = Unit {0}} mid (tree_and s no_trees) n i (length xs) (datum_and (f x) no_data) (Err e) new
        → Outcome {A = Unit {0}} old (array_tree (length xs) s) n (array_datum f xs) (deep_faults (array_tree (length xs) s) (array_datum f xs)) (Err e) new
    one_refused i x mid new e lt there so_far inside o =
        let fields = length xs in
        let most = alike_more old mid new n fields (take i xs) x tt (Err e) so_far inside
        (subst (λ j. TreesOutcome {A = Unit {0}} mid (tree_and s no_trees) n j fields (datum_and (f x) no_data) (Err e) new) (sym (length-take-le i xs (omega (arith, lt)))) o) in
        let whole : (take i xs ++ x ∷ []) ++ drop (suc i) xs ≡ xs =
        ap (λ ys. ys ++ drop (suc i) xs) (sym (take_entry xs i x there)) ∙ take-append-drop (suc i) xs in
        all_alike (Err e) new (subst (λ ys. AlikeOutcome {B = Unit {0}} old n fields ys (Err e) new) whole (alike_refused old new n fields (take i xs ++ x ∷ []) (drop (suc i) xs) e most))
