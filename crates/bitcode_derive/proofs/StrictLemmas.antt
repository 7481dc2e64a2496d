-- What is known of an input that was read strictly.
use Rattle.std.proofs.Common.{◌≡◌, Bool, ◌≢◌, ◌⊎◌, inl, inr, ℕ, ◌<◌, List, [], ◌∷◌, ◌++◌, length, refl, sym, ◌∙◌, ap, subst, arith, ⊎_elim}
use Rattle.std.specs.Prelude.{IsTrue}
use Rattle.std.proofs.lemmas.Bool.{cases_lt}
use Rattle.std.proofs.lemmas.List.{nil_from_length, append-nil}
use Rattle.bitcode_memory.specs.declared.error.Reason.{Reason}
use Rattle.bitcode_memory.specs.declared.error.Reason.TheVariants.{OutOfMemory}
use Rattle.bitcode_columns.specs.Reading.{Reads}
use Rattle.bitcode_shapes.specs.Datum.{Datum}
use Rattle.bitcode_shapes.specs.Lawful.{Lawful, Makeable}
use Rattle.bitcode_shapes.specs.SameData.{HoldSameData}
use Rattle.bitcode_shapes.specs.Shape.{Shape, IsOf}
use Rattle.std.proofs.lemmas.List.Elements.{All-cons, All-nil}
use Rattle.bitcode_coder.specs.Coder.{IsReadingRefusal, TakesDatum}
use Rattle.bitcode_coder.specs.Spelling.{Spells}
use Rattle.bitcode_coder.specs.Strict.{StrictlySpells}
use Rattle.bitcode_coder.proofs.StrictLawLemmas.{strict_is_text, written_strictly}
use Rattle.bitcode_derive.specs.Whole.{IsEncodingOf, HasShortLengths}
use Rattle.bitcode_derive.specs.Strict.{IsStrictDecodingOf, SpellsOtherwise, StrictlySpellsDatum, IsStrictRefusal, no_memory, none_spelled, other_bytes}
use Rattle.bitcode_derive.proofs.DecodingLemmas.{spells_at_most_one}
use Rattle.bitcode_derive.proofs.RoundTripLemmas.{read_equal}

pub memory_or_not : (reason : Reason) → (reason ≡ OutOfMemory) ⊎ (reason ≢ OutOfMemory)
memory_or_not OutOfMemory = inl refl
memory_or_not _ = inr (λ e. cc)

pub nothing_left : (rest : List ℕ) → (0 < length rest → ⊥) → rest ≡ []
nothing_left rest none = nil_from_length rest (⊎_elim (λ some. absurd (none some)) (λ h. omega arith) (cases_lt 0 (length rest)))

module _ (own shape : Shape) (same : own ≡ shape) (bytes : List ℕ) where
  pub strictly_found : {T : Type 0} (makes : Datum → T → Type 0) (t : T) (ds left : List Datum) (rest : List ℕ) → Reads (StrictlySpells own) 1 bytes ds rest
      → (0 < length rest → ⊥) → TakesDatum makes t ds left → IsStrictDecodingOf makes shape bytes t
  strictly_found makes t ds left rest r none taken =
      let whole : bytes ≡ r.piece = r.whole ∙ ap (λ l. r.piece ++ l) (nothing_left rest none) ∙ append-nil r.piece in
      let last : left ≡ [] = nil_from_length left (omega (arith, ap length taken.taken, r.size)) in
      record {
        datum = taken.datum;
        spelled = subst (λ s. StrictlySpells s bytes (taken.datum ∷ [])) same
            (subst (StrictlySpells own bytes) (taken.taken ∙ ap (λ l. taken.datum ∷ l) last) (subst (λ p. StrictlySpells own p ds) (sym whole) r.spelled));
        made = taken.made;
      }

  pub spelled_otherwise : (ds : List Datum) (rest : List ℕ) → Reads (Spells own) 1 bytes ds rest → (0 < length rest → ⊥)
      → (Reads (StrictlySpells own) 1 bytes ds rest → ⊥) → SpellsOtherwise shape bytes
  spelled_otherwise [] rest r none not = absurd (omega (arith, r.size))
  spelled_otherwise (d ∷ e ∷ ds) rest r none not = absurd (omega (arith, r.size))
  spelled_otherwise (d ∷ []) (x ∷ rest) r none not = absurd (none (omega arith))
  spelled_otherwise (d ∷ []) [] r none not = record {
    datum = d;
    spelled = subst (λ s. Spells s bytes (d ∷ [])) same (subst (λ p. Spells own p (d ∷ [])) (sym (r.whole ∙ append-nil r.piece)) r.spelled);
    other = λ s. not (record { size = refl; piece = bytes; whole = sym (append-nil bytes); spelled = subst (λ x. StrictlySpells x bytes (d ∷ [])) (sym same) s });
  }

  pub strictly_refused : (reason : Reason) → IsReadingRefusal own reason 1 bytes → IsStrictRefusal shape reason bytes
  strictly_refused reason refused =
      ⊎_elim (λ memory. no_memory memory)
      (λ other. none_spelled refused.0 (λ d s. refused.1 other (d ∷ []) []
      (record { size = refl; piece = bytes; whole = sym (append-nil bytes); spelled = subst (λ x. Spells x bytes (d ∷ [])) (sym same) s })))
      (memory_or_not reason)

-- ---- what is read strictly is what is written

module _ {T : Type 0} {shape : Shape} {is_value : T → Type 0} {lists : T → Datum → Type 0} {same : T → T → Type 0} where
  pub strictly_written : {makes : Datum → T → Type 0} {determined : Bool} → HoldSameData determined is_value lists same makes → IsTrue determined → (t : T) (bytes : List ℕ) → is_value t
      → IsStrictDecodingOf makes shape bytes t → IsEncodingOf lists shape t bytes
  strictly_written law o t bytes v s = record {
    datum = s.datum;
    listing = (law.made o t s.datum v).1 s.made;
    counts = s.spelled.counts;
    written = (strict_is_text shape bytes (s.datum ∷ []) s.spelled).1;
  }

  module _ {in_order : Bool} (lawful : Lawful shape is_value lists same in_order) (t : T) (bytes : List ℕ) (v : is_value t) (short : HasShortLengths lists shape t)
      (e : IsEncodingOf lists shape t bytes) where
    written_is_strict : StrictlySpellsDatum shape bytes e.datum
    written_is_strict =
        let is_of : IsOf shape e.datum = lawful.of_shape t e.datum v e.listing in
        subst (λ b. StrictlySpells shape b (e.datum ∷ [])) (sym e.written)
        (written_strictly shape lawful.sound (e.datum ∷ []) (All-cons (IsOf shape) e.datum [] is_of (All-nil (IsOf shape))) e.counts (short e.datum e.listing))

    pub strictly_read : {makes : Datum → T → Type 0} {determined : Bool} → HoldSameData determined is_value lists same makes → IsTrue determined → IsStrictDecodingOf makes shape bytes t
    strictly_read law o = record { datum = e.datum; spelled = written_is_strict; made = (law.made o t e.datum v).0 e.listing }

    pub strictly_equal : {makes : Datum → T → Type 0} → Makeable shape is_value lists same makes → (u : T) → is_value u → IsStrictDecodingOf makes shape bytes u → same t u
    strictly_equal makeable u w s =
        read_equal lawful makeable t u bytes v w e (short e.datum e.listing)
        (record { datum = s.datum; spelled = (strict_is_text shape bytes (s.datum ∷ []) s.spelled).0; made = s.made })

    -- what the whole input strictly spells is refused for want of memory alone
    pub strictly_refused_for_memory : (reason : Reason) → IsStrictRefusal shape reason bytes → reason ≡ OutOfMemory
    strictly_refused_for_memory reason (no_memory memory) = memory
    strictly_refused_for_memory reason (other_bytes is o) =
        let one : e.datum ≡ o.datum = spells_at_most_one shape bytes e.datum o.datum (strict_is_text shape bytes (e.datum ∷ []) written_is_strict).0 o.spelled in
        absurd (o.other (subst (StrictlySpellsDatum shape bytes) one written_is_strict))
    strictly_refused_for_memory reason (none_spelled is none) = absurd (none e.datum (strict_is_text shape bytes (e.datum ∷ []) written_is_strict).0)
