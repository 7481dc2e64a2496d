-- What is read of a column of integers of which not all are allowed, and why its reader refuses.
use Rattle.std.proofs.Common.{◌≡◌, ◌≢◌, ℕ, zero, suc, ◌^◌, ◌<◌, Bool, true, ℤ, pos, negsuc, Option, Some, None, List, [], ◌∷◌, length, map, All, refl, sym, ap, ap₂, inl, inr, ◌∙◌, subst, arith}
use Rattle.std.specs.Prelude.{MatchOption, IfSome, is_some, ◌&&◌, unsigned_abs}
use Rattle.std.specs.Int.Signed.{le_z}
use Rattle.std.proofs.lemmas.Bool.{cond-true}
use Rattle.std.proofs.lemmas.Int.{ints}
use Rattle.std.proofs.lemmas.List.{length-map, map-id}
use Rattle.std.proofs.lemmas.List.Elements.{All-map, All-head, All-tail, All-nil, All-cons}
use Rattle.std.proofs.lemmas.Simd.{map-map}
use Rattle.bitcode_memory.specs.declared.error.Reason.{Reason}
use Rattle.bitcode_memory.specs.declared.error.Reason.TheVariants.{OutOfMemory}
use Rattle.bitcode_memory.specs.IntWidths.{IsWidth}
use Rattle.bitcode_columns.specs.IntColumn.{SpellsInts}
use Rattle.bitcode_memory.specs.Ints.{number_of}
use Rattle.bitcode_columns.specs.Reading.{Reads, Names, ints_fault}
use Rattle.bitcode_columns.proofs.IntColumnLemmas.{SpellsInts-unambiguous, ints_fault-refuses, some_width}
use Rattle.bitcode_shapes.proofs.CheckedLemmas.{nonzero_unsigned, nonzero_signed}
use Rattle.bitcode_shapes.specs.Datum.{Datum, number, number_in}
use Rattle.bitcode_shapes.specs.Shape.{Allowed, any_number, nonzero, scalar, between, IsAllowed, IsNumberOf, number_shape}
use Rattle.bitcode_coder.specs.Faults.{NamesCheckedFault, in_column, not_allowed}
use Rattle.bitcode_ints.specs.Int.{ReadsInt}
use Rattle.bitcode_ints.specs.CheckedColumn.{is_allowed, allowed_front, checked_data}
use Rattle.bitcode_coder.specs.Coder.{IsReadingReason, IsReadingRefusal, ReadsValue}
use Rattle.bitcode_coder.specs.Spelling.{Spells, number_of_residue}
use Rattle.bitcode_coder.proofs.OneColumnLemmas.{reads_of}
use Rattle.bitcode_coder.proofs.IntLemmas.{ints_refused, number_is}
use Rattle.bitcode_coder.proofs.LengthRefusalLemmas.{reads_once}

-- ---- the test

pub is_allowed-IsAllowed : (allowed : Allowed) (z : ℤ) → IsAllowed allowed z → is_allowed allowed z ≡ true
is_allowed-IsAllowed any_number z h = refl
is_allowed-IsAllowed nonzero (pos zero) h = absurd (h refl)
is_allowed-IsAllowed nonzero (pos (suc n)) h = refl
is_allowed-IsAllowed nonzero (negsuc n) h = refl
is_allowed-IsAllowed scalar (pos n) h = h
is_allowed-IsAllowed scalar (negsuc n) h = absurd h
is_allowed-IsAllowed (between low high) z h =
    let least : le_z low z ≡ true = grind (arith, ints, h.0) in
    let most : le_z z high ≡ true = grind (arith, ints, h.1) in
    ap₂ (λ a b. a && b) least most

-- ---- the numbers that are held

pub all_in_front : (allowed : Allowed) (zs : List ℤ) → All (IsAllowed allowed) zs → allowed_front allowed zs ≡ zs
all_in_front allowed [] each = refl
all_in_front allowed (z ∷ zs) each =
    cond-true (is_allowed allowed z) (z ∷ allowed_front allowed zs) [] (is_allowed-IsAllowed allowed z (All-head (IsAllowed allowed) z zs each))
    ∙ ap (λ more. z ∷ more) (all_in_front allowed zs (All-tail (IsAllowed allowed) z zs each))

-- ---- read

each_residue : {Entry : Type 0} (residue_of : Entry → ℕ) (P : ℕ → Type 0) (entries : List Entry) → All P (map residue_of entries)
    → All (λ e. P (residue_of e)) entries
each_residue residue_of P [] each = All-nil (λ e. P (residue_of e))
each_residue residue_of P (entry ∷ entries) each =
    All-cons (λ e. P (residue_of e)) entry entries (All-head P (residue_of entry) (map residue_of entries) each)
    (each_residue residue_of P entries (All-tail P (residue_of entry) (map residue_of entries) each))

-- entries that stand for residues, each allowed
pub checked_read : {Entry : Type 0} (residue_of : Entry → ℕ) (width : ℕ) (signed : Bool) (allowed : Allowed) (count : ℕ) (old : List ℕ)
    (entries : List Entry) (new : List ℕ) → IsWidth width → Reads (SpellsInts width) count old (map residue_of entries) new
    → All (λ n. n < 256 ^ width) (map residue_of entries) → All (λ e. IsAllowed allowed (number_of width signed (residue_of e))) entries
    → Reads (Spells (number_shape width signed allowed)) count old
    (checked_data allowed (map (λ e. number_of width signed (residue_of e)) entries)) new
checked_read residue_of width signed allowed count old entries new known r below each =
    let zs = map (λ e. number_of width signed (residue_of e)) entries in
    let front : allowed_front allowed zs ≡ zs =
    all_in_front allowed zs (All-map (IsAllowed allowed) (λ e. number_of width signed (residue_of e)) entries each) in
    let data_are : map (number_of_residue width signed) (map residue_of entries) ≡ checked_data allowed zs =
    map-map (number_of_residue width signed) residue_of entries
    ∙ (sym (map-map number (λ e. number_of width signed (residue_of e)) entries) ∙ ap (map number) (sym front)) in
    subst (λ ds. Reads (Spells (number_shape width signed allowed)) count old ds new) data_are
    (reads_of (number_shape width signed allowed) (number_of_residue width signed) (SpellsInts width) count old (map residue_of entries) new r (λ piece s. record {
      of_shape = subst (All (IsNumberOf width signed allowed)) (sym (map-map (number_of_residue width signed) residue_of entries))
          (All-map (IsNumberOf width signed allowed) (λ e. number_of_residue width signed (residue_of e)) entries
          (λ k d h. number_is width signed allowed _ (some_width width known) (each_residue residue_of (λ n. n < 256 ^ width) entries below k d h) (each k d h)));
      counts = tt;
      columns = record { entries = map residue_of entries; are = refl; spelled = record { spelled = s; in_width = below } };
    }))

-- one integer that is allowed
pub checked_one_read : (width : ℕ) (signed : Bool) (allowed : Allowed) {z : ℤ} {old new : List ℕ} → IsWidth width → ReadsInt width signed z old new
    → IsAllowed allowed z → Reads (Spells (number_shape width signed allowed)) 1 old (number z ∷ []) new
checked_one_read width signed allowed {z} {old} {new} known r each =
    let zs = number_of width signed r.residue ∷ [] in
    let residues = λ (P : ℕ → Type 0) (h : P r.residue). All-cons P r.residue [] h (All-nil P) in
    let allows : All (λ n. IsAllowed allowed (number_of width signed n)) (r.residue ∷ []) =
    residues (λ n. IsAllowed allowed (number_of width signed n)) (subst (IsAllowed allowed) r.is each) in
    let front : allowed_front allowed zs ≡ zs =
    all_in_front allowed zs (All-cons (IsAllowed allowed) (number_of width signed r.residue) [] (subst (IsAllowed allowed) r.is each) (All-nil (IsAllowed allowed))) in
    let is : checked_data allowed zs ≡ number z ∷ [] = ap (map number) front ∙ ap (λ y. number y ∷ []) (sym r.is) in
    subst (λ ds. Reads (Spells (number_shape width signed allowed)) 1 old ds new) is
    (checked_read (λ n. n) width signed allowed 1 old (r.residue ∷ []) new known r.read (residues (λ n. n < 256 ^ width) r.below) allows)

-- the value of one integer, if the type allows it
pub value_read : {T : Type 0} (makes : Datum → T → Type 0) (width : ℕ) (signed : Bool) (allowed : Allowed) {z : ℤ} {old new : List ℕ} (result : Option T)
    → IsWidth width → ReadsInt width signed z old new
    → MatchOption result (IsAllowed allowed z → ⊥) (λ t. IsAllowed allowed z × makes (number z) t)
    → IfSome result (λ t. ReadsValue makes (number_shape width signed allowed) old t new)
value_read makes width signed allowed None known r made = tt
value_read makes width signed allowed {z} (Some t) known r made =
    record { datum = number z; read = checked_one_read width signed allowed known r made.0; made = made.1 }

-- allowed numbers are those that stand in the data
pub checked_numbers : {Entry : Type 0} (f : Entry → ℤ) (allowed : Allowed) (entries : List Entry) → All (λ e. IsAllowed allowed (f e)) entries
    → map number_in (checked_data allowed (map f entries)) ≡ map f entries
checked_numbers f allowed entries each =
    let zs = map f entries in
    map-map number_in number (allowed_front allowed zs) ∙ map-id (allowed_front allowed zs) ∙ all_in_front allowed zs (All-map (IsAllowed allowed) f entries each)

-- ---- refused

number_once : {y z : ℤ} → number y ≡ number z → y ≡ z
number_once e = cc

allowed_of_data : {width : ℕ} {signed : Bool} {allowed : Allowed} (entries : List ℕ)
    → All (IsNumberOf width signed allowed) (map (number_of_residue width signed) entries) → All (λ n. IsAllowed allowed (number_of width signed n)) entries
allowed_of_data {width} {signed} {allowed} [] each = All-nil (λ n. IsAllowed allowed (number_of width signed n))
allowed_of_data {width} {signed} {allowed} (n ∷ ns) each =
    let first = All-head (IsNumberOf width signed allowed) (number_of_residue width signed n) (map (number_of_residue width signed) ns) each in
    let later = All-tail (IsNumberOf width signed allowed) (number_of_residue width signed n) (map (number_of_residue width signed) ns) each in
    All-cons (λ m. IsAllowed allowed (number_of width signed m)) n ns (subst (IsAllowed allowed) (sym (number_once first.is)) first.in_allowed)
    (allowed_of_data ns later)

module _ {width : ℕ} {signed : Bool} {allowed : Allowed} {count : ℕ} {input : List ℕ} {ds : List Datum} {rest : List ℕ}
    (r : Reads (Spells (number_shape width signed allowed)) count input ds rest) where
  entries_read : Reads (SpellsInts width) count input r.spelled.columns.entries rest
  entries_read = record {
    size = sym (ap length r.spelled.columns.are ∙ length-map r.spelled.columns.entries (number_of_residue width signed)) ∙ r.size;
    piece = r.piece;
    whole = r.whole;
    spelled = r.spelled.columns.spelled.spelled;
  }

  each_allowed : All (λ n. IsAllowed allowed (number_of width signed n)) r.spelled.columns.entries
  each_allowed = allowed_of_data r.spelled.columns.entries (subst (All (IsNumberOf width signed allowed)) r.spelled.columns.are r.spelled.of_shape)

  column_refused : (reason : Reason) → reason ≢ OutOfMemory → Names reason (ints_fault width count input) → ⊥
  column_refused reason other (inl memory) = other memory.0
  column_refused reason other (inr fault) =
      (ints_fault-refuses width).refused count input reason fault entries_read.piece r.spelled.columns.entries rest entries_read.spelled entries_read.size entries_read.whole

  checked_refused : (reason : Reason) → reason ≢ OutOfMemory → NamesCheckedFault width signed allowed reason count input → ⊥
  checked_refused reason other (in_column column) = column_refused reason other column.named
  checked_refused reason other (not_allowed entries left is read broken) =
      let same = reads_once (SpellsInts-unambiguous width) read entries_read in
      broken (subst (All (λ n. IsAllowed allowed (number_of width signed n))) (sym same.0) each_allowed)

checked_reason : (width : ℕ) (signed : Bool) (allowed : Allowed) (reason : Reason) (count : ℕ) (input : List ℕ)
    → NamesCheckedFault width signed allowed reason count input → IsReadingReason reason
checked_reason width signed allowed reason count input (in_column named) = (ints_refused width signed reason count input named.named).0
checked_reason width signed allowed reason count input (not_allowed entries left is read broken) = subst IsReadingReason (sym is) tt

pub checked_refusal : (width : ℕ) (signed : Bool) (allowed : Allowed) (reason : Reason) (count : ℕ) (input : List ℕ)
    → NamesCheckedFault width signed allowed reason count input → IsReadingRefusal (number_shape width signed allowed) reason count input
checked_refusal width signed allowed reason count input fault =
    (checked_reason width signed allowed reason count input fault, λ other ds rest r. checked_refused r reason other fault)

-- ---- made

pub unsigned_from_bits : {T : Type 0} (value : T → ℕ) (n : ℕ) (result : Option T) → ((t : T) → 0 < value t) → MatchOption result (n ≡ 0) (λ t. value t ≡ n)
    → MatchOption result (pos n ≢ pos 0 → ⊥) (λ t. (pos n ≢ pos 0) × (number (pos n) ≡ number (pos (value t))))
unsigned_from_bits value n None positive made = λ other. other (ap pos made)
unsigned_from_bits value n (Some t) positive made =
    (nonzero_unsigned n (subst (λ m. 0 < m) made (positive t)), ap (λ m. number (pos m)) (sym made))

pub signed_from_bits : {T : Type 0} (value : T → ℤ) (z : ℤ) (result : Option T) → ((t : T) → 0 < unsigned_abs (value t))
    → MatchOption result (z ≡ pos 0) (λ t. value t ≡ z)
    → MatchOption result (z ≢ pos 0 → ⊥) (λ t. (z ≢ pos 0) × (number z ≡ number (value t)))
signed_from_bits value z None positive made = λ other. other made
signed_from_bits value z (Some t) positive made =
    (nonzero_signed z (subst (λ y. 0 < unsigned_abs y) made (positive t)), ap number (sym made))

-- an entry that has a value is allowed
pub value_allowed : {T A : Type 0} (N : Type 0) (M : T → Type 0) (result : Option T) → is_some result ≡ true → MatchOption result N (λ t. A × M t) → A
value_allowed N M None is made = absurd cc
value_allowed N M (Some t) is made = made.0

-- where some entry of a slice breaks P, so does its residue
pub broken_entries : {Entry : Type 0} (residue_of : Entry → ℕ) (P : ℕ → Type 0) (entries slice : List Entry) → slice ≡ entries
    → (All (λ e. P (residue_of e)) slice → ⊥) → All P (map residue_of entries) → ⊥
broken_entries residue_of P entries slice same broken each =
    broken (subst (All (λ e. P (residue_of e))) (sym same) (each_residue residue_of P entries each))
