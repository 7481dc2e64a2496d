-- A text whose length is one byte is read without memory.
use Rattle.std.proofs.Common.{◌≡◌, ◌≢◌, ℕ, ◌<◌, ◌^◌, ltb, true, Some, None, List, [], ◌∷◌, ◌++◌, sum, refl, sym, ◌∙◌, ap, subst, inl, inr, arith, Result, Ok, Err, IfErr, IsTrue}
use Rattle.std.specs.Prelude.{slice_index}
use Rattle.std.proofs.lemmas.Bool.{cond_both, ne_eqb}
use Rattle.bitcode_memory.specs.declared.error.Error.{Error}
use Rattle.bitcode_memory.specs.declared.error.Reason.{Reason}
use Rattle.bitcode_memory.specs.declared.error.Reason.TheVariants.{LengthOverflow, HugeLength, OutOfMemory}
use Rattle.bitcode_columns.specs.ByteColumn.{SpellsBytes}
use Rattle.bitcode_columns.specs.Reading.{Reads, ints_stand_raw}
use Rattle.bitcode_shapes.specs.Shape.{text_shape}
use Rattle.bitcode_coder.specs.LengthColumn.{lengths_from, length_limit}
use Rattle.bitcode_coder.specs.LengthParts.{escapes, sum_fault, NamesLengthFault, in_short, in_large, in_sum}
use Rattle.bitcode_coder.specs.TextParts.{NamesTextFault, in_lengths, missing_bytes, not_texts}
use Rattle.bitcode_derive.specs.Whole.{NamesWholeFault, in_columns, bytes_left, in_making}

-- one short byte that is no escape
no_escape : (short input middle : List ℕ) → slice_index input 0 < 255 → Reads SpellsBytes 1 input short middle → escapes short ≡ 0
no_escape [] input middle below r = refl
no_escape (x ∷ []) input middle below r = one r.spelled
  where
    one : SpellsBytes r.piece (x ∷ []) → escapes (x ∷ []) ≡ 0
    one (inl (few, same)) =
        let first : slice_index input 0 ≡ x = ap (λ bytes. slice_index bytes 0) (r.whole ∙ ap (λ bytes. bytes ++ middle) same) in
        rw (ne_eqb x 255 (λ is. absurd (omega (arith, first, is)))) refl
    one (inr (many, spelled)) = absurd (omega (arith, many))
no_escape (x ∷ y ∷ short) input middle below r = absurd (omega (arith, r.size))

-- no sum is refused for want of memory
sum_free : (reason : Reason) → reason ≡ OutOfMemory → (total : ℕ) → sum_fault total ≡ Some reason → ⊥
sum_free reason is total =
    cond_both (ltb total (2 ^ 64)) _ (Some LengthOverflow) (λ fault. fault ≡ Some reason → ⊥)
    (λ fits. cond_both (ltb total length_limit) None (Some HugeLength) (λ fault. fault ≡ Some reason → ⊥) (λ below none. cc) (λ huge named. cc))
    (λ over named. cc)

-- a byte column that stands raw, and no large lengths behind it
module _ (input : List ℕ) (below : slice_index input 0 < 255) where
  lengths_free : (reason : Reason) → reason ≡ OutOfMemory → NamesLengthFault reason 1 input → ⊥
  lengths_free reason is (in_short named) = named.free refl is
  lengths_free reason is (in_large {short = short} {middle = middle} read named) =
      named.free (subst (λ n. IsTrue (ints_stand_raw 8 n middle)) (sym (no_escape short input middle below read)) refl) is
  lengths_free reason is (in_sum {short = short} {large = large} read fault) = sum_free reason is (sum (lengths_from short large)) fault

  texts_free : (reason : Reason) → reason ≡ OutOfMemory → NamesTextFault reason 1 input → ⊥
  texts_free reason is (in_lengths fault) = lengths_free reason is fault
  texts_free reason is (missing_bytes lengths middle eof read few) = cc
  texts_free reason is (not_texts lengths bytes rest invalid read all broken) = cc

  whole_free : (reason : Reason) → reason ≡ OutOfMemory → NamesWholeFault true (text_shape None) reason input → ⊥
  whole_free reason is (in_columns fault) = texts_free reason is fault
  whole_free reason is (bytes_left eof left) = cc
  whole_free reason is (in_making memory takes d spelled) = takes refl

  pub short_text_free : {T : Type 0} (result : Result T Error) → IfErr result (λ e. NamesWholeFault true (text_shape None) e.reason input)
      → IfErr result (λ e. e.reason ≢ OutOfMemory)
  short_text_free (Ok t) exact = tt
  short_text_free (Err e) exact = λ is. whole_free e.reason is exact
