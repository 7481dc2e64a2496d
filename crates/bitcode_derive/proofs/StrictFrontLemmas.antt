-- What is known of a front of an input that was read strictly, where a decoder of a shape, its own, reads it.
use Rattle.std.proofs.Common.{◌≡◌, ℕ, List, [], ◌∷◌, refl, sym, subst, arith, ⊎_elim}
use Rattle.bitcode_memory.specs.declared.error.Reason.{Reason}
use Rattle.bitcode_columns.specs.Reading.{Reads}
use Rattle.bitcode_shapes.specs.Datum.{Datum}
use Rattle.bitcode_shapes.specs.Shape.{Shape}
use Rattle.bitcode_coder.specs.Coder.{IsReadingRefusal, TakesDatum}
use Rattle.bitcode_coder.specs.Spelling.{Spells}
use Rattle.bitcode_coder.specs.Strict.{StrictlySpells}
use Rattle.bitcode_derive.specs.StrictFront.{StrictlyBeginsWith, IsStrictDecodingOfFront, BeginsOtherwise, IsStrictFrontRefusal, no_memory_in_front, no_front_spelled}
use Rattle.bitcode_derive.proofs.FrontLemmas.{none_begun-unread}
use Rattle.bitcode_derive.proofs.StrictLemmas.{memory_or_not}

-- what one datum was strictly read from strictly begins with it
strict_front_of : {shape : Shape} {input : List ℕ} (d : Datum) (more : List Datum) (rest : List ℕ) → Reads (StrictlySpells shape) 1 input (d ∷ more) rest
    → StrictlyBeginsWith shape input d rest
strict_front_of d [] rest r = record { front = r.piece; whole = r.whole; spelled = r.spelled }
strict_front_of d (e ∷ more) rest r = absurd (omega (arith, r.size))

module _ {own shape : Shape} (same : own ≡ shape) {input : List ℕ} {ds : List Datum} {rest : List ℕ} where
  -- its value is that of the front
  pub strictly_made_of_front : {T : Type 0} {makes : Datum → T → Type 0} {t : T} {left : List Datum} → Reads (StrictlySpells own) 1 input ds rest
      → TakesDatum makes t ds left → IsStrictDecodingOfFront makes shape input t rest
  strictly_made_of_front r taken =
      record {
        datum = taken.datum;
        begins =
            subst (λ s. StrictlyBeginsWith s input taken.datum rest) same
            (strict_front_of taken.datum _ rest (subst (λ all. Reads (StrictlySpells own) 1 input all rest) taken.taken r));
        made = taken.made;
      }

module _ (own shape : Shape) (same : own ≡ shape) (input rest : List ℕ) where
  pub begins_otherwise : (ds : List Datum) → Reads (Spells own) 1 input ds rest → (Reads (StrictlySpells own) 1 input ds rest → ⊥)
      → BeginsOtherwise shape input rest
  begins_otherwise [] r not = absurd (omega (arith, r.size))
  begins_otherwise (d ∷ e ∷ ds) r not = absurd (omega (arith, r.size))
  begins_otherwise (d ∷ []) r not = record {
    datum = d;
    begins = record { front = r.piece; whole = r.whole; spelled = subst (λ s. Spells s r.piece (d ∷ [])) same r.spelled };
    other = λ b. not (record { size = refl; piece = b.front; whole = b.whole; spelled = subst (λ s. StrictlySpells s b.front (d ∷ [])) (sym same) b.spelled });
  }

  pub strict_front_refused : (reason : Reason) → IsReadingRefusal own reason 1 input → IsStrictFrontRefusal shape reason input rest
  strict_front_refused reason refused =
      ⊎_elim (λ memory. no_memory_in_front memory)
      (λ other. no_front_spelled refused.0 (none_begun-unread own shape same input (refused.1 other)))
      (memory_or_not reason)
