-- What is known of the data that a whole input spells, where a decoder of a shape, its own, reads it.
use Rattle.std.proofs.Common.{◌≡◌, ℕ, ◌<◌, List, [], ◌∷◌, ◌++◌, length, Bool, IsTrue, refl, sym, ◌∙◌, ap, subst, arith, Result, Ok, Err, IsOk, IfErr}
use Rattle.std.proofs.lemmas.Bool.{false≢true}
use Rattle.bitcode_memory.specs.declared.error.Error.{Error}
use Rattle.bitcode_memory.specs.declared.error.Reason.TheVariants.{OutOfMemory}
use Rattle.bitcode_columns.specs.Reading.{Reads}
use Rattle.bitcode_shapes.specs.Datum.{Datum}
use Rattle.bitcode_shapes.specs.Shape.{Shape, IsSound}
use Rattle.bitcode_coder.specs.Spelling.{Spells}
use Rattle.bitcode_coder.proofs.SpellingLemmas.{Spells-unambiguous, Spells-size_bound}
use Rattle.bitcode_derive.specs.Whole.{SpellsDatum, SpellsAtMostOne, IsBoundedByBytes, NamesWholeFault, in_making}

append_nil : (xs : List ℕ) → xs ≡ xs ++ []
append_nil [] = refl
append_nil (x ∷ xs) = ap (λ l. x ∷ l) (append_nil xs)

pub cons_once : (d e : Datum) → d ∷ [] ≡ e ∷ [] → d ≡ e
cons_once d e h = cc

pub spells_at_most_one : (shape : Shape) (bytes : List ℕ) → SpellsAtMostOne shape bytes
spells_at_most_one shape bytes d e s r = cons_once d e ((Spells-unambiguous shape).unambiguous bytes bytes (d ∷ []) (e ∷ []) [] [] s r refl refl).0

pub bounded_by_bytes : (shape : Shape) (bytes : List ℕ) → IsSound shape → IsBoundedByBytes shape bytes
bounded_by_bytes shape bytes sound d s = Spells-size_bound shape sound bytes (d ∷ []) s

module _ (own shape : Shape) (same : own ≡ shape) (bytes : List ℕ) where
  -- what the whole input spells is read from it
  pub none_spelled-unread : ((ds : List Datum) (rest : List ℕ) → Reads (Spells own) 1 bytes ds rest → ⊥)
      → (d : Datum) → SpellsDatum shape bytes d → ⊥
  none_spelled-unread unread d s =
      unread (d ∷ []) []
      (record { size = refl; piece = bytes; whole = append_nil bytes; spelled = subst (λ x. Spells x bytes (d ∷ [])) (sym same) s })

  -- where bytes are left behind one datum, all of them spell none
  pub none_spelled-left : (rest : List ℕ) (ds : List Datum) → Reads (Spells own) 1 bytes ds rest → 0 < length rest
      → (d : Datum) → SpellsDatum shape bytes d → ⊥
  none_spelled-left rest ds r more d s =
      let e : rest ≡ [] =
      ((Spells-unambiguous own).unambiguous r.piece bytes ds (d ∷ []) rest [] r.spelled (subst (λ x. Spells x bytes (d ∷ [])) (sym same) s) r.size
      (sym r.whole ∙ append_nil bytes)).1 in
      let n : length rest ≡ 0 = ap (λ l. length l) e in
      absurd (omega arith)

-- one datum was read, and nothing is left behind it
all_spelled : {shape : Shape} {bytes : List ℕ} (ds : List Datum) (rest : List ℕ) (r : Reads (Spells shape) 1 bytes ds rest) → (0 < length rest → ⊥)
    → (d : Datum) × SpellsDatum shape bytes d
all_spelled [] rest r none = absurd (omega (arith, r.size))
all_spelled {shape} (d ∷ []) [] r none = (d, subst (λ all. Spells shape all (d ∷ [])) (append_nil r.piece ∙ sym r.whole) r.spelled)
all_spelled (d ∷ e ∷ ds) rest r none = absurd (omega (arith, r.size))
all_spelled (d ∷ []) (x ∷ rest) r none = absurd (none (omega arith))

-- making its value was refused
pub making_named : (makes_free : Bool) {shape : Shape} {bytes : List ℕ} {ds : List Datum} {rest : List ℕ}
    → Reads (Spells shape) 1 bytes ds rest → (0 < length rest → ⊥) → {T : Type 0} (result : Result T Error) → IfErr result (λ e. e.reason ≡ OutOfMemory)
    → (IsTrue makes_free → IsOk result) → IfErr result (λ e. NamesWholeFault makes_free shape e.reason bytes)
making_named makes_free r none (Ok t) refused free = tt
making_named makes_free {ds = ds} {rest = rest} r none (Err e) refused free =
    let all = all_spelled ds rest r none in
    in_making refused (λ is. false≢true (free is)) all.0 all.1
