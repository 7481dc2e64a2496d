-- A value behind its head, with its checksum.
use Rattle.std.proofs.Common.{◌≡◌, ◌≢◌, ℤ, pos, negsuc, ℕ, ◌-◌, ◌^◌, ◌<◌, List, [], ◌∷◌, ◌++◌, length, take, drop, refl, sym, ap, subst, ◌∙◌, arith, append_assoc}
use Rattle.std.specs.Prelude.{slice_index}
use Rattle.std.proofs.lemmas.List.{drop_at, take_rest}
use Rattle.bitcode_sealed.proofs.PartLemmas.{All-left, All-right}
use Rattle.bitcode_memory.specs.LittleEndian.{little_endian, number_bytes}
use Rattle.bitcode_memory.proofs.LittleEndianLemmas.{number_bytes-little_endian, little_endian-number_bytes}
use Rattle.bitcode_sealed.specs.declared.label.Label.{Label}
use Rattle.bitcode_sealed.specs.declared.label.Expected.{Expected}
use Rattle.bitcode_sealed.specs.declared.head.Head.{Head}
use Rattle.bitcode_sealed.specs.declared.error.OpenError.TheVariants.{ValueDamaged}
use Rattle.bitcode_sealed.specs.Crc.{crc_32}
use Rattle.bitcode_sealed.specs.Layout.{checked, head_bytes, sealed, BeginsWithHead}
use Rattle.bitcode_sealed.specs.Faults.{Admits, HasValueBehind, IsValueFault, value_damaged, IsSealedFront}
use Rattle.bitcode_sealed.proofs.CrcLemmas.{AreBytes, crc_below}
use Rattle.bitcode_sealed.proofs.DamageLemmas.{length-head_bytes}

-- four bytes, one by one
pub four_bytes : (sum : List ℕ) → length sum ≡ 4 → sum ≡ slice_index sum 0 ∷ slice_index sum 1 ∷ slice_index sum 2 ∷ slice_index sum 3 ∷ []
four_bytes [] e = absurd (omega (arith, e))
four_bytes (a ∷ []) e = absurd (omega (arith, e))
four_bytes (a ∷ b ∷ []) e = absurd (omega (arith, e))
four_bytes (a ∷ b ∷ c ∷ []) e = absurd (omega (arith, e))
four_bytes (a ∷ b ∷ c ∷ d ∷ []) e = refl
four_bytes (a ∷ b ∷ c ∷ d ∷ x ∷ sum) e = absurd (omega (arith, e))

-- a stored checksum that is the number is the number's bytes
pub stored_is : (sum : List ℕ) (n : ℕ) → AreBytes sum → length sum ≡ 4 → little_endian sum ≡ n → sum ≡ number_bytes 4 n
stored_is sum n bytes size e =
    sym (number_bytes-little_endian sum bytes) ∙ ap (λ k. number_bytes k (little_endian sum)) size ∙ ap (number_bytes 4) e

-- and one that is not is not
pub stored_is_not : (sum value : List ℕ) → AreBytes value → (little_endian sum ≢ crc_32 value) → sum ≢ number_bytes 4 (crc_32 value)
stored_is_not sum value bytes differs e =
    let below : crc_32 value < 256 ^ 4 = crc_below value bytes in
    differs (ap little_endian e ∙ little_endian-number_bytes 4 (crc_32 value) below)

-- the parts behind a head
pub parts_of : (head : Head) (input value behind sum rest : List ℕ) → BeginsWithHead head input → drop 20 input ≡ value ++ behind → behind ≡ sum ++ rest
    → input ≡ head_bytes head ++ (value ++ (sum ++ rest))
parts_of head input value behind sum rest begins first second =
    let dropped : drop 20 input ≡ begins.behind = ap (drop 20) begins.whole ∙ drop_at (head_bytes head) begins.behind 20 (length-head_bytes head) in
    begins.whole ∙ ap (λ l. head_bytes head ++ l) (sym dropped ∙ first ∙ ap (λ l. value ++ l) second)

pub value_behind : (head : Head) (input value sum rest : List ℕ) → input ≡ head_bytes head ++ (value ++ (sum ++ rest)) → length value ≡ head.size
    → sum ≡ number_bytes 4 (crc_32 value) → HasValueBehind head input value rest
unfolding checked
value_behind head input value sum rest whole size is = record {
  whole =
      whole ∙ ap (λ s. head_bytes head ++ (value ++ (s ++ rest))) is
      ∙ ap (λ l. head_bytes head ++ l) (sym (append_assoc value (number_bytes 4 (crc_32 value)) rest));
  size = size;
}

pub value_of : ℤ → ℕ
value_of (pos n) = n
value_of (negsuc n) = 0

pub pos_same : (m n : ℕ) → pos m ≡ pos n → m ≡ n
unfolding value_of
pos_same m n e = ap value_of e

-- the parts of an input behind its head, as they are split, and the checksum that is stored there
pub record AreParts (head : Head) (input value behind sum rest : List ℕ) (stored : ℕ) : Type 0 where
  pub bytes : AreBytes input
  pub begins : BeginsWithHead head input
  pub first : take (length input - 20) (drop 20 input) ≡ value ++ behind
  pub second : behind ≡ sum ++ rest
  pub size : length value ≡ head.size
  pub sum_size : length sum ≡ 4
  pub read : pos stored ≡ pos (little_endian (slice_index sum 0 ∷ slice_index sum 1 ∷ slice_index sum 2 ∷ slice_index sum 3 ∷ []))

module _ (head : Head) (input value behind sum rest : List ℕ) (stored : ℕ) (p : AreParts head input value behind sum rest stored) where
  whole : input ≡ head_bytes head ++ (value ++ (sum ++ rest))
  whole = parts_of head input value behind sum rest p.begins (sym (take_rest input 20) ∙ p.first) p.second

  value_and_more : AreBytes (value ++ (sum ++ rest))
  value_and_more = All-right (λ b. b < 256) (head_bytes head) (value ++ (sum ++ rest)) (subst AreBytes whole p.bytes)

  stored_reads : stored ≡ little_endian sum
  stored_reads = pos_same stored (little_endian (slice_index sum 0 ∷ slice_index sum 1 ∷ slice_index sum 2 ∷ slice_index sum 3 ∷ [])) p.read
      ∙ ap little_endian (sym (four_bytes sum p.sum_size))

  pub value_found : (computed : ℕ) → computed ≡ crc_32 value → stored ≡ computed → HasValueBehind head input value rest
  value_found computed is same =
      let bytes_sum : AreBytes sum = All-left (λ b. b < 256) sum rest (All-right (λ b. b < 256) value (sum ++ rest) value_and_more) in
      value_behind head input value sum rest whole p.size (stored_is sum (crc_32 value) bytes_sum p.sum_size (sym stored_reads ∙ same ∙ is))

  pub value_not_found : (computed : ℕ) → computed ≡ crc_32 value → (stored ≢ computed) → IsValueFault head input (ValueDamaged stored computed)
  value_not_found computed is differs =
      value_damaged value sum rest (ap (λ s. ValueDamaged s computed) stored_reads ∙ ap (λ c. ValueDamaged (little_endian sum) c) is) whole p.size p.sum_size
      (stored_is_not sum value (All-left (λ b. b < 256) value (sum ++ rest) value_and_more) (λ e. differs (stored_reads ∙ e ∙ sym is)))

-- a value behind a head that the program expects is sealed under its label
pub sealed_front : (expected : Expected) (head : Head) (input value rest : List ℕ) → Admits expected head → HasValueBehind head input value rest
    → IsSealedFront expected input value rest
unfolding sealed
sealed_front expected head input value rest admits has =
    let bytes_at : ℕ → ℕ → ℕ → List ℕ = λ kind version size. head_bytes (record { label = record { kind = kind; version = version }; size = size }) in
    let same : head_bytes head ≡ head_bytes (record { label = expected.label; size = length value }) =
    ap (λ k. bytes_at k head.label.version head.size) admits.same_kind ∙ ap (λ v. bytes_at expected.label.kind v head.size) admits.same_version
    ∙ ap (λ s. bytes_at expected.label.kind expected.label.version s) (sym has.size) in
    record {
      whole = has.whole ∙ ap (λ h. h ++ (checked value ++ rest)) same ∙ sym (append_assoc (head_bytes (record { label = expected.label; size = length value })) (checked value) rest);
      short = omega (arith, has.size, admits.short);
    }

-- what is appended in three parts
pub sealed_behind : (label : Label) (before value head sum : List ℕ) → head ≡ head_bytes (record { label = label; size = length value })
    → sum ≡ number_bytes 4 (crc_32 value) → before ++ head ++ value ++ sum ≡ before ++ sealed label value
unfolding sealed checked
sealed_behind label before value head sum first last =
    append_assoc (before ++ head) value sum ∙ append_assoc before head (value ++ sum)
    ∙ ap (λ h. before ++ (h ++ (value ++ sum))) first
    ∙ ap (λ s. before ++ (head_bytes (record { label = label; size = length value }) ++ (value ++ s))) last
