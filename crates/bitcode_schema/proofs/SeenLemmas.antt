-- Writing values through what they hold.
use Rattle.std.proofs.Common.{◌≡◌, inl, inr, ℕ, Option, List, [], ◌∷◌, map, All, sym, subst, ◌∙◌}
use Rattle.std.proofs.lemmas.List.Elements.{All-head, All-tail}
use Rattle.bitcode_memory.specs.declared.error.Reason.{Reason}
use Rattle.bitcode_shapes.specs.Datum.{Datum}
use Rattle.bitcode_shapes.specs.Shape.{Shape}
use Rattle.bitcode_schema.specs.Views.{Hold, HasOther, under}
use Rattle.bitcode_schema.specs.Writing.{Writes, HasStranger, IsRefusal}
use Rattle.bitcode_schema.proofs.HoldLemmas.{hold_same, hold_map, map_hold, hold_once, hold_under, hold_between}

pub refusal_as : {S T : Type 0} (reason : Reason) → (S → T) → IsRefusal reason S → IsRefusal reason T
refusal_as reason f (inl memory) = inl memory
refusal_as reason f (inr away) = inr (away.0, f away.1)

module _ {A B : Type 0} (view : A → Option B) (f : B → Option Datum) (s : Shape) (xs : List A) where
  pub stranger_other : HasOther view xs → HasStranger (λ x. under (view x) f) s xs
  stranger_other other ds are = let b = hold_between view f xs ds are.held in other b.between b.first

  module _ (us : List B) (h : Hold view xs us) where
    pub writes_seen : (old new : List ℕ) → Writes f s us old new → Writes (λ x. under (view x) f) s xs old new
    writes_seen old new w = record {
      contents = w.contents;
      are = record { held = hold_under view f xs us w.contents h w.are.held; of_shape = w.are.of_shape };
      counts = w.counts;
      written = w.written;
    }

    pub stranger_seen : HasStranger f s us → HasStranger (λ x. under (view x) f) s xs
    stranger_seen stranger ds are =
        let b = hold_between view f xs ds are.held in
        stranger ds (record { held = subst (λ vs. Hold f vs ds) (hold_once view xs b.between us b.first h) b.second; of_shape = are.of_shape })

-- ---- the same contents, otherwise said

module _ {A : Type 0} (content other : A → Option Datum) (same : (a : A) → content a ≡ other a) (s t : Shape) (shape : s ≡ t) (xs : List A) where
  pub writes_as : (old new : List ℕ) → Writes content s xs old new → Writes other t xs old new
  writes_as old new w = subst (λ u. Writes other u xs old new) shape (record {
    contents = w.contents;
    are = record { held = hold_same content other same xs w.contents w.are.held; of_shape = w.are.of_shape };
    counts = w.counts;
    written = w.written;
  })

  pub stranger_as : HasStranger content s xs → HasStranger other t xs
  stranger_as stranger = subst (λ u. HasStranger other u xs) shape
      (λ ds are. stranger ds (record { held = hold_same other content (λ a. sym (same a)) xs ds are.held; of_shape = are.of_shape }))

module _ {A B : Type 0} (content : B → Option Datum) (f : A → B) (s : Shape) (xs : List A) (ys : List B) (are : ys ≡ map f xs) where
  pub writes_mapped : (old new : List ℕ) → Writes content s ys old new → Writes (λ x. content (f x)) s xs old new
  writes_mapped old new w = record {
    contents = w.contents;
    are = record { held = hold_map content f xs w.contents (subst (λ zs. Hold content zs w.contents) are w.are.held); of_shape = w.are.of_shape };
    counts = w.counts;
    written = w.written;
  }

  pub stranger_mapped : HasStranger content s ys → HasStranger (λ x. content (f x)) s xs
  stranger_mapped stranger ds h =
      stranger ds (record { held = subst (λ zs. Hold content zs ds) (sym are) (map_hold content f xs ds h.held); of_shape = h.of_shape })

-- ---- where the contents of these items are the same

module _ {A : Type 0} (content other : A → Option Datum) where
  hold_where : (xs : List A) (us : List Datum) → All (λ a. content a ≡ other a) xs → Hold content xs us → Hold other xs us
  hold_where [] [] each h = tt
  hold_where [] (u ∷ us) each h = absurd h
  hold_where (x ∷ xs) [] each h = absurd h
  hold_where (x ∷ xs) (u ∷ us) each h =
      (sym (All-head (λ a. content a ≡ other a) x xs each) ∙ h.0, hold_where xs us (All-tail (λ a. content a ≡ other a) x xs each) h.1)

module _ {A : Type 0} (content other : A → Option Datum) (s : Shape) (xs : List A) (each : All (λ a. content a ≡ other a) xs) where
  pub writes_where : (old new : List ℕ) → Writes content s xs old new → Writes other s xs old new
  writes_where old new w = record {
    contents = w.contents;
    are = record { held = hold_where content other xs w.contents each w.are.held; of_shape = w.are.of_shape };
    counts = w.counts;
    written = w.written;
  }

  pub stranger_where : HasStranger content s xs → HasStranger other s xs
  stranger_where stranger ds are =
      stranger ds (record { held = hold_where other content xs ds (λ k d lt. sym (each k d lt)) are.held; of_shape = are.of_shape })
