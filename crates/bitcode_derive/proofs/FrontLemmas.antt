-- What is known of a datum that a front of the input spells, where a decoder of a shape, its own, reads it.
use Rattle.std.proofs.Common.{◌≡◌, ℕ, List, [], ◌∷◌, Bool, IsTrue, refl, sym, ◌∙◌, subst, arith, Result, Ok, Err, IsOk, IfErr}
use Rattle.std.proofs.lemmas.Bool.{false≢true}
use Rattle.bitcode_memory.specs.declared.error.Error.{Error}
use Rattle.bitcode_memory.specs.declared.error.Reason.TheVariants.{OutOfMemory}
use Rattle.bitcode_columns.specs.Reading.{Reads}
use Rattle.bitcode_shapes.specs.Datum.{Datum}
use Rattle.bitcode_shapes.specs.Shape.{Shape, IsSound}
use Rattle.bitcode_coder.specs.Spelling.{Spells}
use Rattle.bitcode_coder.specs.Coder.{TakesDatum}
use Rattle.bitcode_coder.proofs.SpellingLemmas.{Spells-unambiguous, Spells-size_bound}
use Rattle.bitcode_derive.specs.Front.{BeginsWithDatum, BeginsWithAtMostOne, IsDecodingOfFront, IsBoundedByFront, NamesFrontFault, in_making_front}
use Rattle.bitcode_derive.proofs.DecodingLemmas.{cons_once}

pub begins_with_at_most_one : (shape : Shape) (input : List ℕ) → BeginsWithAtMostOne shape input
begins_with_at_most_one shape input d e rest other b c =
    let same = (Spells-unambiguous shape).unambiguous b.front c.front (d ∷ []) (e ∷ []) rest other b.spelled c.spelled refl (sym b.whole ∙ c.whole) in
    (cons_once d e same.0, same.1)

pub bounded_by_front : (shape : Shape) (input : List ℕ) → IsSound shape → IsBoundedByFront shape input
bounded_by_front shape input sound d rest b = Spells-size_bound shape sound b.front (d ∷ []) b.spelled

module _ (own shape : Shape) (same : own ≡ shape) (input : List ℕ) where
  -- what a front spells is read from the input
  pub none_begun-unread : ((ds : List Datum) (rest : List ℕ) → Reads (Spells own) 1 input ds rest → ⊥)
      → (d : Datum) (rest : List ℕ) → BeginsWithDatum shape input d rest → ⊥
  none_begun-unread unread d rest b =
      unread (d ∷ []) rest
      (record { size = refl; piece = b.front; whole = b.whole; spelled = subst (λ x. Spells x b.front (d ∷ [])) (sym same) b.spelled })

-- what one datum was read from begins with it
front_of : {shape : Shape} {input : List ℕ} (d : Datum) (more : List Datum) (rest : List ℕ) → Reads (Spells shape) 1 input (d ∷ more) rest
    → BeginsWithDatum shape input d rest
front_of d [] rest r = record { front = r.piece; whole = r.whole; spelled = r.spelled }
front_of d (e ∷ more) rest r = absurd (omega (arith, r.size))

module _ {own shape : Shape} (same : own ≡ shape) {input : List ℕ} {ds : List Datum} {rest : List ℕ} (r : Reads (Spells own) 1 input ds rest) where
  -- its value is that of the front
  pub made_of_front : {T : Type 0} {makes : Datum → T → Type 0} {t : T} {left : List Datum} → TakesDatum makes t ds left
      → IsDecodingOfFront makes shape input t rest
  made_of_front taken =
      record {
        datum = taken.datum;
        begins =
            subst (λ s. BeginsWithDatum s input taken.datum rest) same
            (front_of taken.datum _ rest (subst (λ all. Reads (Spells own) 1 input all rest) taken.taken r));
        made = taken.made;
      }

-- one datum was read
one_read : {shape : Shape} {input : List ℕ} (ds : List Datum) (rest : List ℕ) → Reads (Spells shape) 1 input ds rest
    → (d : Datum) × BeginsWithDatum shape input d rest
one_read [] rest r = absurd (omega (arith, r.size))
one_read (d ∷ more) rest r = (d, front_of d more rest r)

-- making its value was refused
pub making_front_named : (makes_free : Bool) {shape : Shape} {input : List ℕ} {ds : List Datum} {rest : List ℕ}
    → Reads (Spells shape) 1 input ds rest → {T : Type 0} (result : Result T Error) → IfErr result (λ e. e.reason ≡ OutOfMemory)
    → (IsTrue makes_free → IsOk result) → IfErr result (λ e. NamesFrontFault makes_free shape e.reason input)
making_front_named makes_free r (Ok t) refused free = tt
making_front_named makes_free {ds = ds} {rest = rest} r (Err e) refused free =
    let one = one_read ds rest r in
    in_making_front refused (λ is. false≢true (free is)) one.0 rest one.1
