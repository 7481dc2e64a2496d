-- What is known of a whole input that was checked.
use Rattle.std.proofs.Common.{◌≢◌, Bool, true, IsTrue, ℕ, ◌<◌, List, [], ◌∷◌, length, refl, sym, ◌∙◌, subst, ⊎_elim, arith}
use Rattle.std.specs.Prelude.{◌↔◌}
use Rattle.std.proofs.lemmas.List.{append-nil}
use Rattle.bitcode_memory.specs.declared.error.Reason.{Reason}
use Rattle.bitcode_memory.specs.declared.error.Reason.TheVariants.{OutOfMemory}
use Rattle.bitcode_columns.specs.Reading.{Reads}
use Rattle.bitcode_shapes.specs.Datum.{Datum}
use Rattle.bitcode_shapes.specs.Shape.{Shape}
use Rattle.bitcode_coder.specs.Coder.{IsReadingReason}
use Rattle.bitcode_coder.specs.Spelling.{Spells}
use Rattle.bitcode_coder.specs.Strict.{StrictlySpells, JudgesData}
use Rattle.bitcode_coder.proofs.StrictLemmas.{judged_data}
use Rattle.bitcode_derive.specs.Strict.{StrictlySpellsDatum, IsStrictRefusal, no_memory, none_spelled}
use Rattle.bitcode_derive.specs.Whole.{SpellsDatum, NamesWholeFault, in_columns, bytes_left, in_making}
use Rattle.bitcode_derive.proofs.DecodingLemmas.{none_spelled-unread, none_spelled-left}
use Rattle.bitcode_derive.proofs.FaultRefusalLemmas.{fault_refuses}
use Rattle.bitcode_derive.proofs.StrictLemmas.{memory_or_not}

module _ (shape : Shape) (bytes : List ℕ) where
  pub named_refuses : (reason : Reason) → NamesWholeFault true shape reason bytes → reason ≢ OutOfMemory → (d : Datum) → SpellsDatum shape bytes d → ⊥
  named_refuses reason (in_columns fault) other = none_spelled-unread shape shape refl bytes ((fault_refuses shape reason 1 bytes fault).1 other)
  named_refuses reason (bytes_left is left) other = none_spelled-left shape shape refl bytes left.rest left.read_data left.read left.left
  named_refuses reason (in_making is free d s) other = absurd (free refl)

  pub named_reason : (reason : Reason) → NamesWholeFault true shape reason bytes → IsReadingReason reason
  named_reason reason (in_columns fault) = (fault_refuses shape reason 1 bytes fault).0
  named_reason reason (bytes_left is left) = subst IsReadingReason (sym is) tt
  named_reason reason (in_making is free d s) = absurd (free refl)

  pub named_strictly : (reason : Reason) → NamesWholeFault true shape reason bytes → IsStrictRefusal shape reason bytes
  named_strictly reason named =
      ⊎_elim (λ memory. no_memory memory) (λ other. none_spelled (named_reason reason named) (named_refuses reason named other)) (memory_or_not reason)

  -- one datum was read, and nothing is left behind it
  pub checked_datum : (ds : List Datum) (rest : List ℕ) (written strict : Bool) → Reads (Spells shape) 1 bytes ds rest
      → (IsTrue strict → JudgesData shape ds written bytes rest) → (0 < length rest → ⊥)
      → (d : Datum) × (SpellsDatum shape bytes d × (IsTrue strict → IsTrue written ↔ StrictlySpellsDatum shape bytes d))
  checked_datum [] rest written strict r judged none = absurd (omega (arith, r.size))
  checked_datum (d ∷ e ∷ ds) rest written strict r judged none = absurd (omega (arith, r.size))
  checked_datum (d ∷ []) (x ∷ rest) written strict r judged none = absurd (none (omega arith))
  checked_datum (d ∷ []) [] written strict r judged none = (
    d,
    (
      subst (λ piece. Spells shape piece (d ∷ [])) (sym (r.whole ∙ append-nil r.piece)) r.spelled,
      λ asked.
          let told = judged_data shape 1 bytes [] (d ∷ []) written r (judged asked) in (
            λ t. let q = told.0 t in subst (λ piece. StrictlySpells shape piece (d ∷ [])) (sym (q.whole ∙ append-nil q.piece)) q.spelled,
            λ s. told.1 (record { size = refl; piece = bytes; whole = sym (append-nil bytes); spelled = s }),
          ),
    ),
  )
