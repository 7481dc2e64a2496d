-- An input has at most one first fault, apart from a failed allocation.
use Rattle.std.proofs.Common.{◌≡◌, ◌≢◌, ℕ, suc, ◌*◌, ◌<◌, Bool, Option, Some, None, List, ◌++◌, length, sum, sym, ap, subst, inl, inr, ◌∙◌, arith, length-append}
use Rattle.std.specs.Prelude.{◌⊎◌}
use Rattle.std.specs.Float.{binary32, binary64}
use Rattle.bitcode_memory.specs.declared.error.Reason.{Reason}
use Rattle.bitcode_memory.specs.declared.error.Reason.TheVariants.{OutOfMemory}
use Rattle.bitcode_columns.specs.ByteColumn.{SpellsBytes}
use Rattle.bitcode_columns.specs.Histogram.{count_of}
use Rattle.bitcode_columns.specs.Laws.{IsReadOnce, IsFaultOf}
use Rattle.bitcode_columns.specs.Reading.{Reads, Names, NamesVariantFault, bytes_fault, ints_fault}
use Rattle.bitcode_columns.specs.VariantColumn.{SpellsVariants}
use Rattle.bitcode_columns.proofs.ByteColumnLemmas.{SpellsBytes-unambiguous, bytes_fault-refuses}
use Rattle.bitcode_columns.proofs.IntColumnLemmas.{ints_fault-refuses}
use Rattle.bitcode_columns.proofs.VariantColumnLemmas.{SpellsVariants-unambiguous, variants_fault-refuses}
use Rattle.bitcode_shapes.specs.Shape.{Shape, Shapes, Allowed, unit_shape, never_shape, bool_shape, number_shape, float_shape, text_shape, raw_shape, seq_shape, map_shape, array_shape, pair_shape, choice_shape, admitted_shape, no_shapes, shape_and, variant_count}
use Rattle.bitcode_coder.specs.Faults.{NamesCheckedFault, NamesVariantsFault, in_column, not_allowed}
use Rattle.bitcode_coder.specs.FirstFault.{FaultsBehind, IsFirstFault, IsPayloadsFault, ListsFault, PairsFault}
use Rattle.bitcode_coder.specs.LengthColumn.{SpellsLengths, lengths_from}
use Rattle.bitcode_coder.specs.LengthParts.{escapes, ReadsParts, sum_fault, NamesLengthFault, in_short, in_large, in_sum}
use Rattle.bitcode_coder.specs.TextParts.{NamesTextFault, NamesLimitedTextFault, in_lengths, missing_bytes, not_texts, in_texts, over_limit}
use Rattle.bitcode_coder.proofs.LengthLemmas.{SpellsLengths-unambiguous}
use Rattle.bitcode_coder.proofs.LengthRefusalLemmas.{reads_once, parts_once, lengths_refused}
use Rattle.bitcode_coder.proofs.SpellingLemmas.{Spells-unambiguous}
use Rattle.bitcode_coder.proofs.StrLemmas.{text_refusal}
use Rattle.bitcode_derive.specs.Front.{NamesFrontFault, in_front_columns, in_making_front}
use Rattle.bitcode_derive.specs.OneFault.{NamesAtMostOne}
use Rattle.bitcode_derive.specs.Whole.{NamesWholeFault, in_columns, bytes_left, in_making}
use Rattle.bitcode_derive.proofs.FaultRefusalLemmas.{Refuse, fault_refuses, lists_refuse}

-- ---- one part, and another behind it

module _ {Entry : Type 0} {Spelled : List ℕ → List Entry → Type 0} (law : IsReadOnce Spelled) {k : ℕ} {input : List ℕ} where
  then_one : (Here : Reason → Type 0) (Behind : Reason → List Entry → List ℕ → Type 0) → NamesAtMostOne Here
      → ((reason : Reason) → reason ≢ OutOfMemory → Here reason → (entries : List Entry) (rest : List ℕ) → Reads Spelled k input entries rest → ⊥)
      → ((entries : List Entry) (rest : List ℕ) → NamesAtMostOne (λ reason. Behind reason entries rest))
      → NamesAtMostOne (λ reason. Here reason ⊎ FaultsBehind Spelled k (Behind reason) input)
  then_one Here Behind one refuses one_behind first second a b (inl f) (inl g) = one first second a b f g
  then_one Here Behind one refuses one_behind first second a b (inl f) (inr g) = absurd (refuses first a f g.entries g.rest g.read)
  then_one Here Behind one refuses one_behind first second a b (inr f) (inl g) = absurd (refuses second b g f.entries f.rest f.read)
  then_one Here Behind one refuses one_behind first second a b (inr f) (inr g) =
      let same = reads_once law g.read f.read in
      one_behind f.entries f.rest first second a b f.fault
      (subst (λ rest. Behind second f.entries rest) same.1 (subst (λ entries. Behind second entries g.rest) same.0 g.fault))

-- ---- columns

some_once : (fault : Option Reason) (first second : Reason) → fault ≡ Some first → fault ≡ Some second → first ≡ second
some_once fault first second f g = let e : Some first ≡ Some second = sym f ∙ g in cc

names_one : (fault : Option Reason) → NamesAtMostOne (λ reason. Names reason fault)
names_one fault first second a b (inl memory) g = absurd (a memory.0)
names_one fault first second a b (inr f) (inl memory) = absurd (b memory.0)
names_one fault first second a b (inr f) (inr g) = some_once fault first second f g

variants_one : (count k : ℕ) (input : List ℕ) → NamesAtMostOne (λ reason. NamesVariantFault reason count k input)
variants_one count k input first second a b (inl memory) g = absurd (a memory.0)
variants_one count k input first second a b (inr f) (inl memory) = absurd (b memory.0)
variants_one count k input first second a b (inr f) (inr g) = some_once _ first second f g

-- a fault of a column, where the column can be read
module _ {Entry : Type 0} {fault : ℕ → List ℕ → Option Reason} {Spelled : List ℕ → List Entry → Type 0} (law : IsFaultOf fault Spelled) {k : ℕ} {input : List ℕ} where
  named_refused : (reason : Reason) → reason ≢ OutOfMemory → Names reason (fault k input) → {entries : List Entry} {rest : List ℕ}
      → Reads Spelled k input entries rest → ⊥
  named_refused reason other (inl memory) r = other memory.0
  named_refused reason other (inr named) {entries} {rest} r = law.refused k input reason named r.piece entries rest r.spelled r.size r.whole

variants_refused : (count : ℕ) {k : ℕ} {input : List ℕ} (reason : Reason) → reason ≢ OutOfMemory → NamesVariantFault reason count k input
    → {entries rest : List ℕ} → Reads (SpellsVariants count) k input entries rest → ⊥
variants_refused count reason other (inl memory) r = other memory.0
variants_refused count {k} {input} reason other (inr named) {entries} {rest} r =
    (variants_fault-refuses count).refused k input reason named r.piece entries rest r.spelled r.size r.whole

numbers_one : (width : ℕ) (signed : Bool) (allowed : Allowed) (k : ℕ) (input : List ℕ) → NamesAtMostOne (λ reason. NamesCheckedFault width signed allowed reason k input)
numbers_one width signed allowed k input first second a b (in_column f) (in_column g) = names_one (ints_fault width k input) first second a b f.named g.named
numbers_one width signed allowed k input first second a b (in_column f) (not_allowed entries rest is read broken) =
    absurd (named_refused (ints_fault-refuses width) first a f.named read)
numbers_one width signed allowed k input first second a b (not_allowed entries rest is read broken) (in_column g) =
    absurd (named_refused (ints_fault-refuses width) second b g.named read)
numbers_one width signed allowed k input first second a b (not_allowed entries rest is read broken) (not_allowed others left also again too) = is ∙ sym also

-- ---- lengths

module _ (k : ℕ) (input : List ℕ) where
  -- the large lengths behind short bytes are at fault, where both can be read
  large_refused : (reason : Reason) → reason ≢ OutOfMemory → {short middle : List ℕ} → Reads SpellsBytes k input short middle
      → Names reason (ints_fault 8 (escapes short) middle) → {others large rest : List ℕ} → ReadsParts k input others large rest → ⊥
  large_refused reason other {short} {middle} read named {others} {large} {rest} parts =
      let same = reads_once SpellsBytes-unambiguous read parts.short_read in
      named_refused (ints_fault-refuses 8) reason other
      (subst (λ bytes. Names reason (ints_fault 8 (escapes bytes) parts.middle)) same.0
      (subst (λ left. Names reason (ints_fault 8 (escapes short) left)) same.1 named))
      parts.large_read

  large_one : (first second : Reason) → first ≢ OutOfMemory → second ≢ OutOfMemory → {short middle others left : List ℕ} → Reads SpellsBytes k input short middle
      → Names first (ints_fault 8 (escapes short) middle) → Reads SpellsBytes k input others left → Names second (ints_fault 8 (escapes others) left)
      → first ≡ second
  large_one first second a b {short} {middle} {others} {left} read f again g =
      let same = reads_once SpellsBytes-unambiguous again read in
      names_one (ints_fault 8 (escapes short) middle) first second a b f
      (subst (λ bytes. Names second (ints_fault 8 (escapes bytes) middle)) same.0
      (subst (λ rest. Names second (ints_fault 8 (escapes others) rest)) same.1 g))

  sum_one : (first second : Reason) {short large rest others larges left : List ℕ} → ReadsParts k input short large rest
      → sum_fault (sum (lengths_from short large)) ≡ Some first → ReadsParts k input others larges left
      → sum_fault (sum (lengths_from others larges)) ≡ Some second → first ≡ second
  sum_one first second {short} {large} {rest} {others} {larges} {left} read f again g =
      let same = parts_once again read in
      some_once (sum_fault (sum (lengths_from short large))) first second f
      (subst (λ bytes. sum_fault (sum (lengths_from bytes large)) ≡ Some second) same.0
      (subst (λ numbers. sum_fault (sum (lengths_from others numbers)) ≡ Some second) same.1 g))

  lengths_one : NamesAtMostOne (λ reason. NamesLengthFault reason k input)
  lengths_one first second a b (in_short f) (in_short g) = names_one (bytes_fault k input) first second a b f.named g.named
  lengths_one first second a b (in_short f) (in_large read g) = absurd (named_refused bytes_fault-refuses first a f.named read)
  lengths_one first second a b (in_short f) (in_sum read g) = absurd (named_refused bytes_fault-refuses first a f.named read.short_read)
  lengths_one first second a b (in_large read f) (in_short g) = absurd (named_refused bytes_fault-refuses second b g.named read)
  lengths_one first second a b (in_large read f) (in_large again g) = large_one first second a b read f.named again g.named
  lengths_one first second a b (in_large read f) (in_sum again g) = absurd (large_refused first a read f.named again)
  lengths_one first second a b (in_sum read f) (in_short g) = absurd (named_refused bytes_fault-refuses second b g.named read.short_read)
  lengths_one first second a b (in_sum read f) (in_large again g) = absurd (large_refused second b again g.named read)
  lengths_one first second a b (in_sum read f) (in_sum again g) = sum_one first second read f again g

  -- ---- texts

  -- bytes are missing, and are there
  missing_there : (lengths middle others bytes rest : List ℕ) → Reads (SpellsLengths None) k input lengths middle → length middle < sum lengths
      → Reads (SpellsLengths None) k input others (bytes ++ rest) → length bytes ≡ sum others → ⊥
  missing_there lengths middle others bytes rest read few again all =
      let same = reads_once (SpellsLengths-unambiguous None) read again in
      omega (arith, few, all, ap (λ l. length l) same.1, ap sum same.0, length-append bytes rest)

  texts_one : NamesAtMostOne (λ reason. NamesTextFault reason k input)
  texts_one first second a b (in_lengths f) (in_lengths g) = lengths_one first second a b f g
  texts_one first second a b (in_lengths f) (missing_bytes lengths middle is read few) = absurd (lengths_refused None first k input f a lengths middle read)
  texts_one first second a b (in_lengths f) (not_texts lengths bytes rest is read all broken) =
      absurd (lengths_refused None first k input f a lengths (bytes ++ rest) read)
  texts_one first second a b (missing_bytes lengths middle is read few) (in_lengths g) = absurd (lengths_refused None second k input g b lengths middle read)
  texts_one first second a b (missing_bytes lengths middle is read few) (missing_bytes others left also again less) = is ∙ sym also
  texts_one first second a b (missing_bytes lengths middle is read few) (not_texts others bytes rest also again all broken) =
      absurd (missing_there lengths middle others bytes rest read few again all)
  texts_one first second a b (not_texts lengths bytes rest is read all broken) (in_lengths g) =
      absurd (lengths_refused None second k input g b lengths (bytes ++ rest) read)
  texts_one first second a b (not_texts lengths bytes rest is read all broken) (missing_bytes others left also again few) =
      absurd (missing_there others left lengths bytes rest again few read all)
  texts_one first second a b (not_texts lengths bytes rest is read all broken) (not_texts others more left also again every too) = is ∙ sym also

  limited_one : (limit : ℕ) → NamesAtMostOne (λ reason. NamesLimitedTextFault limit reason k input)
  limited_one limit first second a b (in_texts f) (in_texts g) = texts_one first second a b f g
  limited_one limit first second a b (in_texts f) (over_limit is over) = absurd ((text_refusal first k input f).1 a over.texts over.rest over.read)
  limited_one limit first second a b (over_limit is over) (in_texts g) = absurd ((text_refusal second k input g).1 b over.texts over.rest over.read)
  limited_one limit first second a b (over_limit is over) (over_limit also more) = is ∙ sym also

-- ---- all shapes

lists_one : {Fault : Reason → ℕ → List ℕ → Type 0} → ((n : ℕ) (rest : List ℕ) → NamesAtMostOne (λ reason. Fault reason n rest)) → (k : ℕ) (input : List ℕ)
    → NamesAtMostOne (λ reason. ListsFault Fault reason k input)
lists_one {Fault} one k input =
    then_one (SpellsLengths-unambiguous None) (λ reason. NamesLengthFault reason k input) (λ reason lengths rest. Fault reason (sum lengths) rest) (lengths_one k input)
    (λ reason other fault lengths rest read. lengths_refused None reason k input fault other lengths rest read) (λ lengths rest. one (sum lengths) rest)

pairs_one : (first : Shape) {First Second : Reason → ℕ → List ℕ → Type 0} → Refuse first First
    → ((n : ℕ) (rest : List ℕ) → NamesAtMostOne (λ reason. First reason n rest)) → ((n : ℕ) (rest : List ℕ) → NamesAtMostOne (λ reason. Second reason n rest))
    → (k : ℕ) (input : List ℕ) → NamesAtMostOne (λ reason. PairsFault first First Second reason k input)
pairs_one shape {First} {Second} refuse one one_behind k input =
    then_one (Spells-unambiguous shape) (λ reason. First reason k input) (λ reason ds rest. Second reason k rest) (one k input)
    (λ reason other fault ds rest read. (refuse reason k input fault).1 other ds rest read) (λ ds rest. one_behind k rest)

mutual
  pub fault_once : (shape : Shape) (k : ℕ) (input : List ℕ) → NamesAtMostOne (λ reason. IsFirstFault shape reason k input)
  fault_once unit_shape k input first second a b f g = absurd f
  fault_once never_shape k input first second a b f g = f.0 ∙ sym g.0
  fault_once bool_shape k input first second a b f g = names_one _ first second a b f.named g.named
  fault_once (number_shape width signed allowed) k input first second a b f g = numbers_one width signed allowed k input first second a b f g
  fault_once (float_shape binary32) k input first second a b f g = some_once _ first second f g
  fault_once (float_shape binary64) k input first second a b f g = names_one (ints_fault 8 k input) first second a b f.named g.named
  fault_once (text_shape None) k input first second a b f g = texts_one k input first second a b f g
  fault_once (text_shape (Some limit)) k input first second a b f g = limited_one k input limit first second a b f g
  fault_once raw_shape k input first second a b f g = f.0 ∙ sym g.0
  fault_once (seq_shape None element) k input first second a b f g = lists_one (λ n rest. fault_once element n rest) k input first second a b f g
  fault_once (seq_shape (Some limit) element) k input first second a b (inl f) (inl g) =
      lists_one (λ n rest. fault_once element n rest) k input first second a b f g
  fault_once (seq_shape (Some limit) element) k input first second a b (inl f) (inr broken) =
      absurd ((lists_refuse None element (fault_refuses element) first k input f).1 a broken.lists broken.rest broken.read)
  fault_once (seq_shape (Some limit) element) k input first second a b (inr broken) (inl g) =
      absurd ((lists_refuse None element (fault_refuses element) second k input g).1 b broken.lists broken.rest broken.read)
  fault_once (seq_shape (Some limit) element) k input first second a b (inr f) (inr g) = f.is ∙ sym g.is
  fault_once (map_shape key value) k input first second a b f g =
      lists_one (pairs_one key (fault_refuses key) (λ n rest. fault_once key n rest) (λ n rest. fault_once value n rest)) k input first second a b f g
  fault_once (array_shape size element) k input first second a b (inl f) (inl g) = f.1 ∙ sym g.1
  fault_once (array_shape size element) k input first second a b (inl f) (inr g) = let over = f.0 in let fits = g.0 in absurd (omega (arith, over, fits))
  fault_once (array_shape size element) k input first second a b (inr f) (inl g) = let fits = f.0 in let over = g.0 in absurd (omega (arith, over, fits))
  fault_once (array_shape size element) k input first second a b (inr f) (inr g) = fault_once element (k * size) input first second a b f.1 g.1
  fault_once (pair_shape left right) k input first second a b f g =
      pairs_one left (fault_refuses left) (λ n rest. fault_once left n rest) (λ n rest. fault_once right n rest) k input first second a b f g
  fault_once (choice_shape shapes) k input first second a b f g =
      let count = variant_count shapes in
      then_one (SpellsVariants-unambiguous count) (λ reason. NamesVariantsFault count reason k input) (λ reason variants rest. IsPayloadsFault shapes reason 0 variants rest)
      (λ r s x y u v. variants_one count k input r s x y u.named v.named)
      (λ reason other fault variants rest read. variants_refused count reason other fault.named read)
      (λ variants rest. payloads_once shapes 0 variants rest) first second a b f g
  fault_once (admitted_shape admits shape) k input first second a b (inl f) (inl g) = fault_once shape k input first second a b f g
  fault_once (admitted_shape admits shape) k input first second a b (inl f) (inr broken) =
      absurd ((fault_refuses shape first k input f).1 a broken.found broken.rest broken.read)
  fault_once (admitted_shape admits shape) k input first second a b (inr broken) (inl g) =
      absurd ((fault_refuses shape second k input g).1 b broken.found broken.rest broken.read)
  fault_once (admitted_shape admits shape) k input first second a b (inr f) (inr g) = f.is ∙ sym g.is

  payloads_once : (shapes : Shapes) (index : ℕ) (variants input : List ℕ) → NamesAtMostOne (λ reason. IsPayloadsFault shapes reason index variants input)
  payloads_once no_shapes index variants input first second a b f g = absurd f
  payloads_once (shape_and s ss) index variants input first second a b f g =
      then_one (Spells-unambiguous s) (λ reason. IsFirstFault s reason (count_of index variants) input)
      (λ reason ds rest. IsPayloadsFault ss reason (suc index) variants rest) (λ r t x y u v. fault_once s (count_of index variants) input r t x y u v)
      (λ reason other fault ds rest read. (fault_refuses s reason (count_of index variants) input fault).1 other ds rest read)
      (λ ds rest. payloads_once ss (suc index) variants rest) first second a b f g

-- ---- whole values, and values one after another

pub whole_fault_once : (free : Bool) (shape : Shape) (bytes : List ℕ) → NamesAtMostOne (λ reason. NamesWholeFault free shape reason bytes)
whole_fault_once free shape bytes first second a b (in_columns f) (in_columns g) = fault_once shape 1 bytes first second a b f g
whole_fault_once free shape bytes first second a b (in_columns f) (bytes_left is more) =
    absurd ((fault_refuses shape first 1 bytes f).1 a more.read_data more.rest more.read)
whole_fault_once free shape bytes first second a b (bytes_left is more) (in_columns g) =
    absurd ((fault_refuses shape second 1 bytes g).1 b more.read_data more.rest more.read)
whole_fault_once free shape bytes first second a b (bytes_left is more) (bytes_left also others) = is ∙ sym also
whole_fault_once free shape bytes first second a b (in_making memory takes d spelled) g = absurd (a memory)
whole_fault_once free shape bytes first second a b (in_columns f) (in_making memory takes d spelled) = absurd (b memory)
whole_fault_once free shape bytes first second a b (bytes_left is more) (in_making memory takes d spelled) = absurd (b memory)

pub front_fault_once : (free : Bool) (shape : Shape) (input : List ℕ) → NamesAtMostOne (λ reason. NamesFrontFault free shape reason input)
front_fault_once free shape input first second a b (in_front_columns f) (in_front_columns g) = fault_once shape 1 input first second a b f g
front_fault_once free shape input first second a b (in_making_front memory takes d rest begins) g = absurd (a memory)
front_fault_once free shape input first second a b (in_front_columns f) (in_making_front memory takes d rest begins) = absurd (b memory)
