-- What is read and written of a column of bools, in terms of data.
use Rattle.std.proofs.Common.{◌≡◌, ℕ, ◌≤◌, Bool, true, false, ◌==◌, List, [], ◌∷◌, length, map, take, drop, refl, sym, subst, ap, ◌∙◌, lit<, Result, IsOk, IfErr, Ok, Err}
use Rattle.std.specs.List.{AllZip}
use Rattle.std.proofs.lemmas.Bool.{false≢true}
use Rattle.std.proofs.lemmas.List.{length-map}
use Rattle.std.proofs.lemmas.List.Elements.{All-map}
use Rattle.bitcode_memory.specs.declared.error.Error.{Error}
use Rattle.bitcode_memory.specs.declared.error.Reason.{Reason}
use Rattle.bitcode_columns.specs.declared.pack.Base.TheVariants.{Two}
use Rattle.bitcode_columns.specs.BoolColumn.{SpellsBools}
use Rattle.bitcode_memory.specs.Ints.{bool_digit}
use Rattle.bitcode_columns.specs.Reading.{Reads, bools_fault, Names}
use Rattle.bitcode_columns.specs.Laws.{IsFaultOf}
use Rattle.bitcode_columns.proofs.DigitLemmas.{digits_fault-refuses}
use Rattle.bitcode_shapes.specs.Datum.{natural_in}
use Rattle.bitcode_shapes.specs.Shape.{IsNaturalBelow, bool_shape}
use Rattle.bitcode_shapes.specs.Ints.{MakesNumber, bool_number}
use Rattle.bitcode_coder.specs.Spelling.{Spells, truth}
use Rattle.bitcode_coder.specs.Faults.{NamesBoolsFault}
use Rattle.bitcode_coder.specs.Coder.{IsReadingRefusal, TakesEach}
use Rattle.bitcode_coder.proofs.OneColumnLemmas.{missing_known, reads_of, refusal_of}
use Rattle.bitcode_coder.proofs.TakingLemmas.{takes_front, made_each}

bools_fault-refuses : IsFaultOf bools_fault SpellsBools
bools_fault-refuses = record {
  refused = λ count input reason named piece entries rest s size whole.
      (digits_fault-refuses Two).refused count input reason named piece (map bool_digit entries) rest s (length-map entries bool_digit ∙ size) whole;
}

pub bools_refused : (reason : Reason) (count : ℕ) (input : List ℕ) → Names reason (bools_fault count input)
    → IsReadingRefusal bool_shape reason count input
bools_refused reason count input named =
    refusal_of bool_shape truth SpellsBools bools_fault bools_fault-refuses (λ bytes ds s. s.columns) reason count input (missing_known _ input) named

-- bools that are refused, and none of them is refused
pub bools_exact : {T : Type 0} (r : Result T Error) (count : ℕ) (input : List ℕ) → IfErr r (λ e. Names e.reason (bools_fault count input)) → (count ≡ 0 → IsOk r)
    → IfErr r (λ e. NamesBoolsFault e.reason count input)
bools_exact (Ok x) count input named empty = tt
bools_exact (Err e) count input named empty = record { named = named; free = λ none. absurd (false≢true (empty none)) }

truth_below : (b : Bool) → IsNaturalBelow 2 (truth b)
truth_below true = record { value = 1; is = refl; below = lit< tt }
truth_below false = record { value = 0; is = refl; below = lit< tt }

pub bools_read : (count : ℕ) (old : List ℕ) (entries : List Bool) (new : List ℕ) → Reads SpellsBools count old entries new
    → Reads (Spells bool_shape) count old (map truth entries) new
bools_read count old entries new r =
    reads_of bool_shape truth SpellsBools count old entries new r (λ piece s. record {
      of_shape = All-map (IsNaturalBelow 2) truth entries (λ k d h. truth_below _);
      counts = tt;
      columns = record { entries = entries; are = refl; spelled = s };
    })

pub truths_in : (bs : List Bool) → map (λ d. natural_in d == 1) (map truth bs) ≡ bs
truths_in [] = refl
truths_in (true ∷ bs) = ap (λ more. true ∷ more) (truths_in bs)
truths_in (false ∷ bs) = ap (λ more. false ∷ more) (truths_in bs)

-- a front of the bools was taken
pub takes_bools : (count : ℕ) (entries front left bools : List Bool) → count ≤ length (map truth entries) → front ≡ take count entries → left ≡ drop count entries → bools ≡ front
    → TakesEach (MakesNumber bool_number) count bools (map truth entries) (map truth left)
takes_bools count entries front left bools enough is behind same =
    takes_front (MakesNumber bool_number) truth count entries front left bools enough is behind
    (subst (AllZip (MakesNumber bool_number) (map truth front)) (sym same) (made_each (MakesNumber bool_number) truth (λ b. refl) front))
