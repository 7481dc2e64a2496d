-- Writing the elements that an iterator lends.
use Rattle.std.proofs.Common.{◌≡◌, ℕ, zero, suc, ◌+◌, ◌≤◌, List, [], ◌∷◌, length, drop, slice_get, Some, refl, ap, sym, subst, ◌∙◌, arith, add-one}
use Rattle.std.specs.Prelude.{Ok}
use Rattle.bitcode_memory.specs.declared.error.Reason.{Reason}
use Rattle.bitcode_shapes.specs.Datum.{Datum}
use Rattle.bitcode_coder.specs.Spelling.{natural}
use Rattle.bitcode_untyped.specs.ShapeTree.{ShapeTree, seq_tree, IsOf}
use Rattle.bitcode_untyped.specs.Walk.{element, length_kind, use_at, walk}
use Rattle.bitcode_serde.specs.Serializing.{Outcome}
use Rattle.bitcode_serde.specs.Writing.{place_in, Writes, IsAmong, RefusesAt}
use Rattle.bitcode_serde.specs.declared.writer.state.Writer.{Writer}
use Rattle.bitcode_serde.proofs.SerializeLemmas.{list_done, list_is, list_refused, written_outcome}
use Rattle.bitcode_serde.proofs.WalkLemmas.{EachWritten, among_entry, each_none, each_more, each_all, written_there}
use Rattle.bitcode_serde_types.specs.DeepFaults.{deep_faults}
use Rattle.bitcode_serde_types.specs.Lists.{list_datum}
use Rattle.bitcode_serde_types.proofs.ListLemmas.{seq_faults}

-- the next one of those that are left
next_of : {A : Type 0} (xs : List A) (i : ℕ) (x : A) (ys : List A) → drop i xs ≡ x ∷ ys
    → (slice_get xs i ≡ Some x) × (drop (suc i) xs ≡ ys) × (suc i ≤ length xs)
next_of [] zero x ys h = absurd (let l : 0 ≡ suc (length ys) = ap length h in omega (arith, l))
next_of [] (suc i) x ys h = absurd (let l : 0 ≡ suc (length ys) = ap length h in omega (arith, l))
next_of (z ∷ zs) zero x ys h = (cc, cc, omega arith)
next_of (z ∷ zs) (suc i) x ys h = let r = next_of zs i x ys h in let l = r.2 in (r.0, r.1, omega (arith, l))

none_left : {A : Type 0} (xs : List A) (i : ℕ) → drop i xs ≡ [] → length xs ≤ i
none_left [] i h = omega arith
none_left (z ∷ zs) zero h = absurd (let l : suc (length zs) ≡ 0 = ap length h in omega (arith, l))
none_left (z ∷ zs) (suc i) h = let l = none_left zs i h in omega (arith, l)

module _ {A : Type 0} (s : ShapeTree) (f : A → Datum) (xs : List A) (start : Writer) (m : ℕ) where
  -- the elements but for those that are left were written
  pub record LentWritten (left : List A) (now : Writer) : Type 0 where
    pub i : ℕ
    pub inside : i ≤ length xs
    pub behind : drop i xs ≡ left
    pub each : EachWritten (λ v. walk s (place_in start m) (f v)) (λ v. IsOf s (f v)) (λ v. deep_faults s (f v)) xs start i now

  pub none_lent : LentWritten xs start
  none_lent = record {
    i = 0;
    inside = omega arith;
    behind = refl;
    each = each_none (λ v. walk s (place_in start m) (f v)) (λ v. IsOf s (f v)) (λ v. deep_faults s (f v)) xs start;
  }

  pub lent_more : (there : m ≤ length start.places.below.items) (left ys : List A) (x : A) (now new : Writer) → LentWritten left now → left ≡ x ∷ ys
      → Writes now (walk s (place_in now m) (f x)) new → IsOf s (f x) → deep_faults s (f x) ≡ [] → LentWritten ys new
  lent_more there left ys x now new so_far next step is whole =
      let r = next_of xs so_far.i x ys (so_far.behind ∙ next) in
      let low = r.2 in
      record {
        i = so_far.i + 1;
        inside = omega (arith, low);
        behind = ap (λ j. drop j xs) (add-one so_far.i) ∙ r.1;
        each =
            each_more (λ v. walk s (place_in start m) (f v)) (λ v. IsOf s (f v)) (λ v. deep_faults s (f v)) xs start so_far.i x now new r.0 so_far.each
            (written_there start now new s m (f x) so_far.each.written.grows there step) is whole;
      }

  -- the list stands at a place
  module _ (old : Writer) (n : ℕ) (first : Writes old (use_at (place_in old n) length_kind (natural (length xs)) ∷ []) start)
      (at : place_in start m ≡ element ∷ place_in old n) where
    pub lent_done : (left : List A) (now : Writer) → LentWritten left now → left ≡ []
        → Outcome old (seq_tree s) n (list_datum f xs) (deep_faults (seq_tree s) (list_datum f xs)) (Ok (tt {0})) now
    lent_done left now so_far none =
        let low = none_left xs so_far.i (so_far.behind ∙ none) in
        let all = each_all (λ v. walk s (place_in start m) (f v)) (λ v. IsOf s (f v)) (λ v. deep_faults s (f v)) xs start so_far.i now low so_far.inside so_far.each in
        written_outcome old (seq_tree s) n _ _ tt now
        (list_done s f xs old start now n m so_far.i first at low so_far.inside so_far.each.written)
        (list_is s f xs all.1) (seq_faults s f xs ∙ all.2)

    pub lent_refused : (there : m ≤ length start.places.below.items) (left ys : List A) (x : A) (now : Writer) (reason : Reason) → LentWritten left now
        → left ≡ x ∷ ys → RefusesAt now s m (deep_faults s (f x)) reason → RefusesAt old (seq_tree s) n (deep_faults (seq_tree s) (list_datum f xs)) reason
    lent_refused there left ys x now reason so_far next refused =
        let r = next_of xs so_far.i x ys (so_far.behind ∙ next) in
        list_refused s f xs old start now n m (length xs) so_far.i _ _ reason first at there so_far.each.written
        (λ a. subst (IsAmong reason) (sym (seq_faults s f xs)) (among_entry _ (λ v. deep_faults s (f v)) xs so_far.i x r.0 a)) refused
