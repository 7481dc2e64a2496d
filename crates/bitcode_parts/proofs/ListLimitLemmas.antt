-- Lengths that keep a limit, if there is one.
use Rattle.std.proofs.Common.{ℕ, Option, Some, None, List, All}
use Rattle.bitcode_columns.specs.Reading.{Reads}
use Rattle.bitcode_shapes.specs.Shape.{IsWithin}
use Rattle.bitcode_coder.specs.LengthColumn.{SpellsLengths, KeepsCap, lengths_from}
use Rattle.bitcode_coder.proofs.LengthLemmas.{cap_within, other_limit, SpellsLengths-within}

pub lengths_within : (limit : Option ℕ) (short large : List ℕ) → KeepsCap limit short (lengths_from short large) → All (IsWithin limit) (lengths_from short large)
lengths_within None short large keeps = λ k d inside. tt
lengths_within (Some limit) short large keeps = cap_within limit short large keeps

pub spelled_within : (limit : Option ℕ) (piece lengths : List ℕ) → SpellsLengths limit piece lengths → All (IsWithin limit) lengths
spelled_within None piece lengths s = λ k d inside. tt
spelled_within (Some limit) piece lengths s = SpellsLengths-within s

-- lengths that are read with a limit are read without one
pub reads_unlimited : {limit : Option ℕ} {k : ℕ} {old lengths rest : List ℕ} → Reads (SpellsLengths limit) k old lengths rest
    → Reads (SpellsLengths None) k old lengths rest
reads_unlimited r = record { size = r.size; piece = r.piece; whole = r.whole; spelled = other_limit None r.spelled tt }
