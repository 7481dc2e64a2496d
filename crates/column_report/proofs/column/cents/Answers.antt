-- Each column was read behind the one before it, and nothing follows the last.
use Rattle.std.proofs.Common.{◌≡◌, ◌∙◌, ℕ, List, [], length, ◌<◌, subst, arith, ⊎_elim}
use Rattle.std.proofs.lemmas.Bool.{false≢true, cases_lt}
use Rattle.std.proofs.lemmas.List.{nil_from_length}
use Rattle.bitcode.specs.ByHand.{Datum, Reads}
use Rattle.column_report.proofs.column.cents.Goals as goal

nothing_left : (rest : List ℕ) → (0 < length rest → ⊥) → rest ≡ []
nothing_left rest none = nil_from_length rest (⊎_elim (λ some. absurd (none some)) (λ h. omega arith) (cases_lt 0 (length rest)))

to_the_end : {spells : List ℕ → List Datum → Type 0} {count : ℕ} {bytes rest : List ℕ} {entries : List Datum} → rest ≡ []
    → Reads spells count bytes entries rest → Reads spells count bytes entries []
to_the_end {spells} {count} {bytes} {rest} {entries} none read = subst (λ behind. Reads spells count bytes entries behind) none read

pub returns : goal.returns
returns c = record {
  found = record {
    lengths = _;
    behind_length = _;
    one_length = c.in_ok-populate.ensures.read;
    count_is = c.length-count.ensures ∙ c.in_ok-populate.ensures.sum;
    firsts = _;
    behind_first = _;
    first_read = c.in_ok-populate-2.ensures.read;
    seconds = _;
    behind_second = _;
    second_read = c.in_ok-populate-3.ensures.read;
    last_read = to_the_end (nothing_left _ (λ more. false≢true (c.in_ok-expect_eof.ensures.refused.1 more))) c.in_ok-populate-4.ensures.read;
  };
}
