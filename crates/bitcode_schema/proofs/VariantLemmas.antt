-- A column of variants is read as one of another number of variants, all the digits of the same base, and then compared.
use Rattle.std.proofs.Common.{◌≡◌, ℕ, ◌-◌, ◌%◌, ◌<◌, ◌≤◌, ◌||◌, true, false, ltb, leb, eqb, IsTrue, Some, None, List, length, refl, sym, ap, ◌∙◌, subst, inl, inr, ⊎_elim, arith}
use Rattle.std.specs.Int.{div_ceil}
use Rattle.std.specs.List.{list_all, range_with_len}
use Rattle.std.proofs.Math.Nat.{mod-lt}
use Rattle.std.proofs.lemmas.Bool.{cond-true, cond-false, lt-ltb, le-ltb, le-leb, lt-leb, cases_lt}
use Rattle.std.proofs.lemmas.List.Sums.{list_all-from_AllPass}
use Rattle.bitcode_memory.specs.declared.error.Reason.{Reason}
use Rattle.bitcode_memory.specs.declared.error.Reason.TheVariants.{InvalidPacking}
use Rattle.bitcode_columns.specs.declared.pack.Base.{Base}
use Rattle.bitcode_columns.specs.Digits.{radix, digits_in_byte, base_for, digits_text}
use Rattle.bitcode_columns.specs.Reading.{NamesVariantFault, variants_fault, is_variant_at, digits_fault}
use Rattle.bitcode_columns.specs.VariantColumn.{variant_text}
use Rattle.bitcode_columns.proofs.DigitLemmas.{some_digits}
use Rattle.bitcode_columns.proofs.VariantColumnLemmas.{variant_text-is, are_variants, names_unknown}
use Rattle.bitcode_coder.specs.Faults.{NamesVariantsFault}
use Rattle.bitcode_schema.specs.Variants.{ReadsDigits}

-- the variants of the first number are all digits of the base for the second
pub record IsWhole (whole count : ℕ) : Type 0 where
  pub base : base_for (whole - 1) ≡ base_for (count - 1)
  pub full : radix (base_for (whole - 1)) ≤ whole
  pub raw : leb 17 whole ≡ leb 17 count

at_most : {n : ℕ} → n ≤ n
at_most = omega arith

module _ (count : ℕ) where
  past : (n : ℕ) → n < count → ltb (count - 1) n ≡ false
  past n more = le-ltb (count - 1) n (omega (arith, more))

  within : (n : ℕ) → 1 ≤ count → count ≤ n → ltb (count - 1) n ≡ true
  within n some few = lt-ltb (count - 1) n (omega (arith, some, few))

  few : count ≤ 16 → false ≡ leb 17 count
  few h = sym (lt-leb 17 count (omega (arith, h)))

  pub whole_6 : 5 ≤ count → count ≤ 6 → IsWhole 6 count
  whole_6 some most = record {
    base = sym (cond-false _ _ _ (past 2 (omega (arith, some))) ∙ cond-false _ _ _ (past 3 (omega (arith, some))) ∙ cond-false _ _ _ (past 4 (omega (arith, some)))
        ∙ cond-true _ _ _ (within 6 (omega (arith, some)) most));
    full = at_most;
    raw = few (omega (arith, most));
  }

  pub whole_16 : 7 ≤ count → count ≤ 16 → IsWhole 16 count
  whole_16 some most = record {
    base = sym (cond-false _ _ _ (past 2 (omega (arith, some))) ∙ cond-false _ _ _ (past 3 (omega (arith, some))) ∙ cond-false _ _ _ (past 4 (omega (arith, some)))
        ∙ cond-false _ _ _ (past 6 (omega (arith, some))) ∙ cond-true _ _ _ (within 16 (omega (arith, some)) most));
    full = at_most;
    raw = few most;
  }

  pub whole_256 : 17 ≤ count → IsWhole 256 count
  whole_256 some = record {
    base = sym (cond-false _ _ _ (past 2 (omega (arith, some))) ∙ cond-false _ _ _ (past 3 (omega (arith, some))) ∙ cond-false _ _ _ (past 4 (omega (arith, some)))
        ∙ cond-false _ _ _ (past 6 (omega (arith, some))) ∙ cond-false _ _ _ (past 16 (omega (arith, some))));
    full = at_most;
    raw = sym (le-leb 17 count some);
  }

module _ {whole count : ℕ} (is : IsWhole whole count) where
  pub same_text : (entries : List ℕ) → variant_text whole entries ≡ variant_text count entries
  same_text entries = variant_text-is whole entries ∙ ap (λ b. digits_text b entries) is.base ∙ sym (variant_text-is count entries)

  module _ (k : ℕ) (input : List ℕ) where
    abbrev size : Base → ℕ
    size base = div_ceil k (digits_in_byte base)

    below : (n : ℕ) → n % radix (base_for (whole - 1)) < whole
    below n =
        let some : 0 < radix (base_for (whole - 1)) = omega (arith, (some_digits (base_for (whole - 1))).2) in
        let less : n % radix (base_for (whole - 1)) < radix (base_for (whole - 1)) = mod-lt n some in
        omega (arith, less, is.full)

    -- each digit is a variant
    all_known : list_all (is_variant_at whole input) (range_with_len 0 k) ≡ true
    all_known = list_all-from_AllPass (is_variant_at whole input) (range_with_len 0 k)
        (λ i d inside. lt-ltb _ whole (below _))

    -- so the only fault is that bytes are missing
    fault_there : (reason : Reason) → variants_fault whole k input ≡ Some reason → variants_fault count k input ≡ Some reason
    fault_there reason named = ⊎_elim short long (cases_lt (length input) (size (base_for (whole - 1))))
      where
        short : length input < size (base_for (whole - 1)) → variants_fault count k input ≡ Some reason
        short missing =
            cond-true _ _ _ (lt-ltb (length input) (size (base_for (count - 1))) (subst (λ b. length input < size b) is.base missing))
            ∙ sym (cond-true _ _ _ (lt-ltb (length input) (size (base_for (whole - 1))) missing)) ∙ named

        long : size (base_for (whole - 1)) ≤ length input → variants_fault count k input ≡ Some reason
        long there =
            let none : variants_fault whole k input ≡ None =
            cond-false _ _ _ (le-ltb (length input) (size (base_for (whole - 1))) there) ∙ cond-true _ _ _ all_known in
            absurd (cc)

    pub same_fault : (reason : Reason) → NamesVariantsFault whole reason k input → NamesVariantsFault count reason k input
    same_fault reason fault = record {
      named = named fault.named;
      free = λ stands. fault.free (subst (λ b. IsTrue (b || eqb k 0)) (sym is.raw) stands);
    }
      where
        named : NamesVariantFault reason whole k input → NamesVariantFault reason count k input
        named (inl (memory, none)) = inl (memory, subst (λ b. digits_fault b k input ≡ None) is.base none)
        named (inr there) = inr (fault_there reason there)

-- ---- compared

module _ {count k : ℕ} {old entries new : List ℕ} (read : ReadsDigits count k old entries new) where
  pub unknown_named : are_variants count entries ≡ false → NamesVariantsFault count InvalidPacking k old
  unknown_named unknown = record { named = names_unknown count k old entries new read InvalidPacking refl unknown; free = λ stands is. cc }
