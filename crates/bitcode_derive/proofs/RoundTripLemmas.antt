-- What was written is read, and as an equal value.
use Rattle.std.proofs.Common.{◌≡◌, ◌≢◌, ℕ, Bool, List, [], ◌∷◌, sym, ◌∙◌, ap, subst}
use Rattle.std.specs.Prelude.{IsTrue}
use Rattle.std.proofs.lemmas.List.Elements.{All-cons, All-nil}
use Rattle.bitcode_memory.specs.declared.error.Reason.{Reason}
use Rattle.bitcode_memory.specs.declared.error.Reason.TheVariants.{OutOfMemory}
use Rattle.bitcode_shapes.specs.Datum.{Datum}
use Rattle.bitcode_shapes.specs.Shape.{Shape, IsOf}
use Rattle.bitcode_shapes.specs.Lawful.{Lawful, Makeable}
use Rattle.bitcode_coder.specs.Transposition.{spread}
use Rattle.bitcode_coder.specs.Spelling.{Spells, LengthsBelowLimit, texts_of}
use Rattle.bitcode_coder.proofs.SpellingLemmas.{columns_bytes-spells}
use Rattle.bitcode_coder.proofs.LawLemmas.{texts_of-spread}
use Rattle.bitcode_derive.specs.Whole.{columns_of_one, IsEncodingOf, HasShortLengths, IsDecodingOf, SpellsDatum, want_of_memory}
use Rattle.bitcode_derive.proofs.DecodingLemmas.{spells_at_most_one}

module _ {T : Type 0} {shape : Shape} {is_value : T → Type 0} {lists : T → Datum → Type 0} {same : T → T → Type 0} {in_order : Bool}
    (lawful : Lawful shape is_value lists same in_order) where
  pub written_spells : (t : T) (bytes : List ℕ) → is_value t → (e : IsEncodingOf lists shape t bytes)
      → LengthsBelowLimit (columns_of_one shape e.datum) → SpellsDatum shape bytes e.datum
  written_spells t bytes v e below =
      let is_of : IsOf shape e.datum = lawful.of_shape t e.datum v e.listing in
      subst (λ b. Spells shape b (e.datum ∷ [])) (texts_of-spread shape (e.datum ∷ []) ∙ sym e.written)
      (columns_bytes-spells shape lawful.sound (e.datum ∷ []) (All-cons (IsOf shape) e.datum [] is_of (All-nil (IsOf shape))) e.counts below)

  pub read_equal : {makes : Datum → T → Type 0} → Makeable shape is_value lists same makes → (t u : T) (bytes : List ℕ) → is_value t → is_value u
      → (e : IsEncodingOf lists shape t bytes) → LengthsBelowLimit (columns_of_one shape e.datum) → IsDecodingOf makes shape bytes u → same t u
  read_equal {makes = makes} makeable t u bytes v w e below f =
      let is : e.datum ≡ f.datum = spells_at_most_one shape bytes e.datum f.datum (written_spells t bytes v e below) f.spelled in
      makeable.remade t u e.datum v w e.listing (subst (λ d. makes d u) (sym is) f.made)

  -- what is refused where no datum is spelled is refused for want of memory
  pub spelled_or_memory : (t : T) (bytes : List ℕ) → is_value t → (e : IsEncodingOf lists shape t bytes) → LengthsBelowLimit (columns_of_one shape e.datum)
      → (reason : Reason) → (reason ≢ OutOfMemory → (d : Datum) → SpellsDatum shape bytes d → ⊥) → reason ≡ OutOfMemory
  spelled_or_memory t bytes v e below reason none =
      want_of_memory reason (λ other. none other e.datum (written_spells t bytes v e below))

  pub refused_for_memory : (t : T) (bytes : List ℕ) → is_value t → IsEncodingOf lists shape t bytes → HasShortLengths lists shape t → (reason : Reason)
      → (reason ≢ OutOfMemory → (d : Datum) → SpellsDatum shape bytes d → ⊥) → reason ≡ OutOfMemory
  refused_for_memory t bytes v e short reason none = spelled_or_memory t bytes v e (short e.datum e.listing) reason none

  pub written_once : IsTrue in_order → (t : T) (bytes again : List ℕ) → is_value t → IsEncodingOf lists shape t bytes → IsEncodingOf lists shape t again
      → bytes ≡ again
  written_once ordered t bytes again v e f =
      e.written ∙ ap (λ d. texts_of (spread shape (d ∷ []))) (lawful.one_listing ordered t e.datum f.datum v e.listing f.listing) ∙ sym f.written

pub read_once : {T : Type 0} {shape : Shape} {is_value : T → Type 0} {lists : T → Datum → Type 0} {same : T → T → Type 0} {makes : Datum → T → Type 0}
    → Makeable shape is_value lists same makes → (t u : T) (bytes : List ℕ) → is_value t → is_value u
    → IsDecodingOf makes shape bytes t → IsDecodingOf makes shape bytes u → same t u
read_once {shape = shape} {makes = makes} makeable t u bytes v w e f =
    let is : e.datum ≡ f.datum = spells_at_most_one shape bytes e.datum f.datum e.spelled f.spelled in
    makeable.unambiguous f.datum t u v w (subst (λ d. makes d t) is e.made) f.made
