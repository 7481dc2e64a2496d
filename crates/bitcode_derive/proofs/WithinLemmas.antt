-- What is known of an input that was read within a limit on elements without columns.
use Rattle.std.proofs.Common.{◌≡◌, ℕ, ◌<◌, ◌≤◌, ◌^◌, List, [], ◌∷◌, ◌++◌, length, Bool, IsTrue, refl, sym, ◌∙◌, ap, subst, arith, ⊎_elim, Result, Ok, Err, IsOk, IfErr}
use Rattle.std.proofs.lemmas.Bool.{false≢true}
use Rattle.std.proofs.lemmas.List.{append-nil}
use Rattle.bitcode_memory.specs.declared.error.Error.{Error}
use Rattle.bitcode_memory.specs.declared.error.Reason.{Reason}
use Rattle.bitcode_memory.specs.declared.error.Reason.TheVariants.{OutOfMemory}
use Rattle.bitcode_columns.specs.Reading.{Reads}
use Rattle.bitcode_shapes.specs.Datum.{Datum}
use Rattle.bitcode_shapes.specs.Shape.{Shape}
use Rattle.bitcode_coder.specs.ColumnFree.{free_count, saturated}
use Rattle.bitcode_coder.specs.Coder.{IsReadingRefusal, TakesDatum}
use Rattle.bitcode_coder.specs.Spelling.{Spells}
use Rattle.bitcode_derive.specs.Whole.{SpellsDatum}
use Rattle.bitcode_derive.specs.Within.{free_in_one, IsDecodingWithin, ExceedsLimit, IsRefusalWithin, NamesFaultWithin, no_memory, none_spelled, in_making}
use Rattle.bitcode_derive.proofs.DecodingLemmas.{none_spelled-unread}
use Rattle.bitcode_derive.proofs.StrictLemmas.{memory_or_not, nothing_left}

-- one datum was read, nothing is left behind it, and its elements without columns were counted
pub record OneCounted (shape : Shape) (bytes : List ℕ) (ds : List Datum) (told : ℕ) : Type 0 where
  pub datum : Datum
  pub is : ds ≡ datum ∷ []
  pub spelled : SpellsDatum shape bytes datum
  pub counted : told ≡ saturated (free_in_one shape datum)

pub one_counted : (shape : Shape) (bytes : List ℕ) (ds : List Datum) (rest : List ℕ) (told : ℕ) → Reads (Spells shape) 1 bytes ds rest → (0 < length rest → ⊥)
    → told ≡ saturated (free_count shape ds) → OneCounted shape bytes ds told
one_counted shape bytes [] rest told r none counted = absurd (omega (arith, r.size))
one_counted shape bytes (d ∷ e ∷ ds) rest told r none counted = absurd (omega (arith, r.size))
one_counted shape bytes (d ∷ []) rest told r none counted = record {
  datum = d;
  is = refl;
  spelled = subst (λ all. Spells shape all (d ∷ [])) (sym (r.whole ∙ ap (λ l. r.piece ++ l) (nothing_left rest none) ∙ append-nil r.piece)) r.spelled;
  counted = counted;
}

module _ (own shape : Shape) (same : own ≡ shape) (bytes : List ℕ) (most : ℕ) where
  pub exceeds : {ds : List Datum} (told : ℕ) → OneCounted own bytes ds told → most < told → ExceedsLimit most shape bytes
  exceeds told one over = record {
    datum = one.datum;
    spelled = subst (λ s. Spells s bytes (one.datum ∷ [])) same one.spelled;
    over = subst (λ s. most < free_in_one s one.datum) same (omega (arith, one.counted, over));
  }

  pub refused_within : (reason : Reason) → IsReadingRefusal own reason 1 bytes → IsRefusalWithin most shape reason bytes
  refused_within reason refused =
      ⊎_elim (λ memory. no_memory memory) (λ other. none_spelled refused.0 (none_spelled-unread own shape same bytes (refused.1 other))) (memory_or_not reason)

  module _ (small : most < 2 ^ 64) {ds : List Datum} (told : ℕ) (one : OneCounted own bytes ds told) (few : told ≤ most) where
    pub within_limit : free_in_one own one.datum ≤ most
    within_limit = omega (arith, small, one.counted, few)

    pub found_within : {T : Type 0} (makes : Datum → T → Type 0) (t : T) (left : List Datum) → TakesDatum makes t ds left → IsDecodingWithin most makes shape bytes t
    found_within makes t left taken =
        let here : taken.datum ∷ left ≡ one.datum ∷ [] = sym taken.taken ∙ one.is in
        let d : taken.datum ≡ one.datum = cc in
        record {
          datum = one.datum;
          spelled = subst (λ s. Spells s bytes (one.datum ∷ [])) same one.spelled;
          within = subst (λ s. free_in_one s one.datum ≤ most) same within_limit;
          made = subst (λ x. makes x t) d taken.made;
        }

    pub making_within : (makes_free : Bool) {T : Type 0} (result : Result T Error) → IfErr result (λ e. e.reason ≡ OutOfMemory)
        → (IsTrue makes_free → IsOk result) → IfErr result (λ e. NamesFaultWithin most makes_free own e.reason bytes)
    making_within makes_free (Ok t) refused free = tt
    making_within makes_free (Err e) refused free = in_making refused (λ is. false≢true (free is)) one.datum one.spelled within_limit
