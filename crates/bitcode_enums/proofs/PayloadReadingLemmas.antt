-- The payloads of variants are read one variant after the other, and taken from the list of their variant.
use Rattle.std.proofs.Common.{◌≡◌, ℕ, zero, suc, ◌+◌, ◌<◌, ◌≤◌, List, [], ◌∷◌, ◌++◌, length, slice_set, refl, sym, ap, subst, ◌∙◌, inl, inr, append_assoc, arith}
use Rattle.bitcode_memory.specs.declared.error.Reason.{Reason}
use Rattle.bitcode_columns.specs.Histogram.{count_of}
use Rattle.bitcode_columns.specs.Reading.{Reads, IsEndOf}
use Rattle.bitcode_shapes.specs.Datum.{Datum}
use Rattle.bitcode_shapes.specs.Shape.{Shapes, no_shapes, shape_and, variant_count}
use Rattle.bitcode_coder.specs.Spelling.{Spells}
use Rattle.bitcode_coder.specs.Coder.{IsReadingRefusal}
use Rattle.bitcode_coder.specs.FirstFault.{IsFirstFault, IsPayloadsFault}
use Rattle.bitcode_parts.specs.Payloads.{payloads_of, ReadsPayloads, IsPayloadsRefusal}
use Rattle.bitcode_parts.proofs.ChoiceReadingLemmas.{refuses_first, refuses_later}
use Rattle.bitcode_enums.specs.ByNumber.{shape_at, KeepsOthers}

-- ---- all variants, one after the other

-- the shapes of the variants from a place on
abbrev pub shapes_from : ℕ → Shapes → Shapes
shapes_from zero ss = ss
shapes_from (suc place) no_shapes = no_shapes
shapes_from (suc place) (shape_and s ss) = shapes_from place ss

-- the lists up to a place, and others behind them
abbrev pub lists_to : ℕ → (lists behind : List (List Datum)) → List (List Datum)
lists_to zero lists behind = behind
lists_to (suc place) [] behind = behind
lists_to (suc place) (ds ∷ lists) behind = ds ∷ lists_to place lists behind

pub from_place : (place : ℕ) (ss : Shapes) → place < variant_count ss → shapes_from place ss ≡ shape_and (shape_at place ss) (shapes_from (suc place) ss)
from_place place no_shapes below = absurd (omega (arith, below))
from_place zero (shape_and s ss) below = refl
from_place (suc place) (shape_and s ss) below = from_place place ss (omega (arith, below))

pub from_last : (place : ℕ) (ss : Shapes) → variant_count ss ≤ place → shapes_from place ss ≡ no_shapes
from_last zero no_shapes past = refl
from_last zero (shape_and s ss) past = absurd (omega (arith, past))
from_last (suc place) no_shapes past = refl
from_last (suc place) (shape_and s ss) past = from_last place ss (omega (arith, past))

pub lists_next : (place : ℕ) (lists behind : List (List Datum)) (ds : List Datum) → place < length lists
    → lists_to place lists (ds ∷ behind) ≡ lists_to (suc place) (slice_set lists place ds) behind
lists_next place [] behind ds below = absurd (omega (arith, below))
lists_next zero (x ∷ lists) behind ds below = refl
lists_next (suc place) (x ∷ lists) behind ds below = ap (λ xs. x ∷ xs) (lists_next place lists behind ds (omega (arith, below)))

pub lists_whole : (place : ℕ) (lists : List (List Datum)) → length lists ≤ place → lists_to place lists [] ≡ lists
lists_whole zero [] past = refl
lists_whole zero (x ∷ lists) past = absurd (omega (arith, past))
lists_whole (suc place) [] past = refl
lists_whole (suc place) (x ∷ lists) past = ap (λ xs. x ∷ xs) (lists_whole place lists (omega (arith, past)))

module _ (ss : Shapes) (variants input : List ℕ) where
  -- The payloads of the variants up to a place were read: with those from there on, all are, and what is at fault there is so for all.
  pub record ReadTo (place : ℕ) (lists : List (List Datum)) (now : List ℕ) : Type 0 where
    pub more : (behind : List (List Datum)) (rest : List ℕ) → ReadsPayloads (shapes_from place ss) place variants now behind rest
        → ReadsPayloads ss 0 variants input (lists_to place lists behind) rest
    pub refuses : (reason : Reason) → IsPayloadsRefusal (shapes_from place ss) place variants reason now → IsPayloadsRefusal ss 0 variants reason input
    pub is_fault : (reason : Reason) → IsPayloadsFault (shapes_from place ss) reason place variants now → IsPayloadsFault ss reason 0 variants input

  pub read_none : (lists : List (List Datum)) → ReadTo 0 lists input
  read_none lists = record { more = λ behind rest r. r; refuses = λ reason r. r; is_fault = λ reason f. f }

  module _ (place : ℕ) (lists : List (List Datum)) (now : List ℕ) (before : ReadTo place lists now) (below : place < variant_count ss) where
    pub refuses_there : (reason : Reason) → IsReadingRefusal (shape_at place ss) reason (count_of place variants) now → IsPayloadsRefusal ss 0 variants reason input
    refuses_there reason refused =
        before.refuses reason (subst (λ from. IsPayloadsRefusal from place variants reason now) (sym (from_place place ss below))
        (refuses_first (shape_at place ss) (shapes_from (suc place) ss) place variants reason refused))

    pub fault_there : (reason : Reason) → IsFirstFault (shape_at place ss) reason (count_of place variants) now → IsPayloadsFault ss reason 0 variants input
    fault_there reason fault =
        before.is_fault reason (subst (λ from. IsPayloadsFault from reason place variants now) (sym (from_place place ss below)) (inl fault))

    pub read_next : (new_lists : List (List Datum)) (new : List ℕ) → place < length lists → KeepsOthers [] place lists new_lists
        → Reads (Spells (shape_at place ss)) (count_of place variants) now (payloads_of place new_lists) new → ReadTo (suc place) new_lists new
    read_next new_lists new among others read = record {
      more = λ behind rest r.
          subst (λ ls. ReadsPayloads ss 0 variants input ls rest)
          (lists_next place lists behind (payloads_of place new_lists) among ∙ ap (λ ls. lists_to (suc place) ls behind) (sym others))
          (before.more (payloads_of place new_lists ∷ behind) rest
          (subst (λ from. ReadsPayloads from place variants now (payloads_of place new_lists ∷ behind) rest) (sym (from_place place ss below))
          (record { middle = new; first = read; behind = r })));
      refuses = λ reason r.
          before.refuses reason (subst (λ from. IsPayloadsRefusal from place variants reason now) (sym (from_place place ss below))
          (refuses_later (shape_at place ss) (shapes_from (suc place) ss) place variants reason read r));
      is_fault = λ reason f.
          before.is_fault reason (subst (λ from. IsPayloadsFault from reason place variants now) (sym (from_place place ss below))
          (inr (record {
            entries = payloads_of place new_lists;
            rest = new;
            read = read;
            fault = f;
          })));
    }

  pub read_all : (place : ℕ) (lists : List (List Datum)) (now : List ℕ) → ReadTo place lists now → variant_count ss ≤ place → length lists ≤ place
      → ReadsPayloads ss 0 variants input lists now
  read_all place lists now before past few =
      subst (λ ls. ReadsPayloads ss 0 variants input ls now) (lists_whole place lists few)
      (before.more [] now (subst (λ from. ReadsPayloads from place variants now [] now) (sym (from_last place ss past)) refl))

-- ---- what is left of an input

pub ends_further : {old middle new : List ℕ} → IsEndOf old middle → IsEndOf middle new → IsEndOf old new
ends_further {old} {middle} {new} first then = record {
  taken = first.taken ++ then.taken;
  whole = first.whole ∙ ap (λ rest. first.taken ++ rest) then.whole ∙ sym (append_assoc first.taken then.taken new);
}

pub ends_read : {Spelled : List ℕ → List Datum → Type 0} {count : ℕ} {old new : List ℕ} {ds : List Datum} → Reads Spelled count old ds new → IsEndOf old new
ends_read read = record { taken = read.piece; whole = read.whole }

-- ---- taking a payload

-- a variant of which a payload is left has a list
pub some_list : (place : ℕ) (lists : List (List Datum)) → 0 < length (payloads_of place lists) → place < length lists
some_list place [] left = absurd (omega (arith, left))
some_list zero (ds ∷ lists) left = omega arith
some_list (suc place) (ds ∷ lists) left = let below = some_list place lists left in omega (arith, below)
