-- A head is read as it was written.
use Rattle.std.proofs.Common.{◌≡◌, Bool, true, false, not, ℕ, ◌^◌, ◌<◌, List, [], ◌∷◌, ◌++◌, take, drop, refl, sym, ap, subst, ◌∙◌}
use Rattle.std.specs.Prelude.{slice_index}
use Rattle.std.proofs.lemmas.List.{take-append-drop, take_at}
use Rattle.std.proofs.lemmas.List.Elements.{All-nil, All-cons, All-append}
use Rattle.std.specs.Str.{bytes_eq}
use Rattle.std.proofs.lemmas.Bool.{false≢true}
use Rattle.std.proofs.lemmas.Slice.Eq.{bytes_eq-Decides}
use Rattle.bitcode_memory.specs.LittleEndian.{little_endian, number_bytes}
use Rattle.bitcode_memory.proofs.LittleEndianLemmas.{length-number_bytes, number_bytes-little_endian, little_endian_below}
use Rattle.bitcode_sealed.specs.declared.head.Head.{Head}
use Rattle.bitcode_sealed.specs.Crc.{crc_32}
use Rattle.bitcode_sealed.specs.Layout.{magic, checked, head_fields, head_bytes, BeginsWithHead}
use Rattle.bitcode_sealed.proofs.CrcLemmas.{AreBytes, bytes_of_number}
use Rattle.bitcode_sealed.proofs.DamageLemmas.{length-head_bytes}

-- what its bytes say is written as they are
pub said_again : (width n m : ℕ) → m ≡ little_endian (number_bytes width n) → number_bytes width m ≡ number_bytes width n
said_again width n m e =
    ap (number_bytes width) e ∙ ap (λ k. number_bytes k (little_endian (number_bytes width n))) (sym (length-number_bytes width n))
    ∙ number_bytes-little_endian (number_bytes width n) (bytes_of_number width n)

-- a head says what the input says where it stands
pub record SaysAs (head : Head) (input : List ℕ) : Type 0 where
  pub version : head.label.version ≡ little_endian (slice_index input 2 ∷ slice_index input 3 ∷ [])
  pub kind : head.label.kind ≡ little_endian (slice_index input 4 ∷ slice_index input 5 ∷ slice_index input 6 ∷ slice_index input 7 ∷ [])
  pub size : head.size
      ≡ little_endian (slice_index input 8 ∷ slice_index input 9 ∷ slice_index input 10 ∷ slice_index input 11
      ∷ slice_index input 12 ∷ slice_index input 13 ∷ slice_index input 14 ∷ slice_index input 15 ∷ [])

same_fields : (head other : Head) (behind : List ℕ) → SaysAs head (head_bytes other ++ behind) → head_fields head ≡ head_fields other
unfolding checked
same_fields head other behind says =
    ap (λ v. magic ++ v ++ number_bytes 4 head.label.kind ++ number_bytes 8 head.size) (said_again 2 other.label.version head.label.version says.version)
    ∙ ap (λ k. magic ++ number_bytes 2 other.label.version ++ k ++ number_bytes 8 head.size) (said_again 4 other.label.kind head.label.kind says.kind)
    ∙ ap (λ s. magic ++ number_bytes 2 other.label.version ++ number_bytes 4 other.label.kind ++ s) (said_again 8 other.size head.size says.size)

-- where an input begins with a head, what it says there is that head
pub says_the_head : (head other : Head) (input : List ℕ) → SaysAs head input → BeginsWithHead other input → take 20 input ≡ head_bytes head
says_the_head head other input says begins =
    ap (take 20) begins.whole ∙ take_at (head_bytes other) begins.behind 20 (length-head_bytes other)
    ∙ sym (ap checked (same_fields head other begins.behind (subst (SaysAs head) begins.whole says)))

-- numbers that are read from bytes fit in as many bytes
module _ (input : List ℕ) (byte : (i : ℕ) → slice_index input i < 256) where
  then_byte : (i : ℕ) (bytes : List ℕ) → AreBytes bytes → AreBytes (slice_index input i ∷ bytes)
  then_byte i bytes all = All-cons (λ b. b < 256) (slice_index input i) bytes (byte i) all

  from_two : (i j : ℕ) → AreBytes (slice_index input i ∷ slice_index input j ∷ [])
  from_two i j = then_byte i (slice_index input j ∷ []) (then_byte j [] (All-nil (λ b. b < 256)))

  from_four : (i j k l : ℕ) → AreBytes (slice_index input i ∷ slice_index input j ∷ slice_index input k ∷ slice_index input l ∷ [])
  from_four i j k l =
      then_byte i (slice_index input j ∷ slice_index input k ∷ slice_index input l ∷ []) (then_byte j (slice_index input k ∷ slice_index input l ∷ []) (from_two k l))

  -- the four before are put in front of the four behind
  from_eight : (h i j k l m n o : ℕ) → AreBytes (slice_index input h ∷ slice_index input i ∷ slice_index input j ∷ slice_index input k
      ∷ slice_index input l ∷ slice_index input m ∷ slice_index input n ∷ slice_index input o ∷ [])
  from_eight h i j k l m n o =
      All-append (λ b. b < 256) (slice_index input h ∷ slice_index input i ∷ slice_index input j ∷ slice_index input k ∷ [])
      (slice_index input l ∷ slice_index input m ∷ slice_index input n ∷ slice_index input o ∷ []) (from_four h i j k) (from_four l m n o)

  pub begins_with : (head : Head) → SaysAs head input → take 20 input ≡ head_bytes head → BeginsWithHead head input
  begins_with head says e = record {
    kind_fits = subst (λ n. n < 256 ^ 4) (sym says.kind) (little_endian_below (slice_index input 4 ∷ slice_index input 5 ∷ slice_index input 6 ∷ slice_index input 7 ∷ []) (from_four 4 5 6 7));
    version_fits =
        subst (λ n. n < 256 ^ 2) (sym says.version)
        (little_endian_below (slice_index input 2 ∷ slice_index input 3 ∷ []) (from_two 2 3));
    size_fits =
        subst (λ n. n < 256 ^ 8) (sym says.size)
        (little_endian_below (slice_index input 8 ∷ slice_index input 9 ∷ slice_index input 10 ∷ slice_index input 11
        ∷ slice_index input 12 ∷ slice_index input 13 ∷ slice_index input 14 ∷ slice_index input 15 ∷ [])
        (from_eight 8 9 10 11 12 13 14 15));
    behind = drop 20 input;
    whole = sym (take-append-drop 20 input) ∙ ap (λ l. l ++ drop 20 input) e;
  }

abbrev written_fields : List ℕ → List ℕ → List ℕ → List ℕ
written_fields v k s =
    0xBC ∷ 0xF5 ∷ slice_index v 0 ∷ slice_index v 1 ∷ slice_index k 0 ∷ slice_index k 1 ∷ slice_index k 2 ∷ slice_index k 3 ∷ slice_index s 0 ∷ slice_index s 1
    ∷ slice_index s 2 ∷ slice_index s 3 ∷ slice_index s 4 ∷ slice_index s 5 ∷ slice_index s 6 ∷ slice_index s 7 ∷ []

-- the bytes of the fields, one by one, and of their checksum, are the head's
pub head_written : (head : Head) (v k s c : List ℕ) → v ≡ number_bytes 2 head.label.version → k ≡ number_bytes 4 head.label.kind → s ≡ number_bytes 8 head.size
    → c ≡ number_bytes 4 (crc_32 (written_fields v k s))
    → written_fields v k s ++ (slice_index c 0 ∷ slice_index c 1 ∷ slice_index c 2 ∷ slice_index c 3 ∷ []) ≡ head_bytes head
unfolding checked
head_written head v k s c ev ek es ec =
    let fields : written_fields v k s ≡ head_fields head =
    ap (λ x. written_fields x k s) ev ∙ ap (λ x. written_fields (number_bytes 2 head.label.version) x s) ek
    ∙ ap (λ x. written_fields (number_bytes 2 head.label.version) (number_bytes 4 head.label.kind) x) es in
    let sum : c ≡ number_bytes 4 (crc_32 (head_fields head)) = ec ∙ ap (λ f. number_bytes 4 (crc_32 f)) fields in
    ap (λ f. f ++ (slice_index c 0 ∷ slice_index c 1 ∷ slice_index c 2 ∷ slice_index c 3 ∷ [])) fields
    ∙ ap (λ x. head_fields head ++ (slice_index x 0 ∷ slice_index x 1 ∷ slice_index x 2 ∷ slice_index x 3 ∷ [])) sum

-- ---- what `!=` says

not_false : (b : Bool) → not b ≡ false → b ≡ true
not_false true h = refl
not_false false h = absurd (false≢true (sym h))

pub same_from_ne : (r : Bool) (xs ys : List ℕ) → r ≡ not (bytes_eq xs ys) → r ≡ false → xs ≡ ys
same_from_ne r xs ys is same = (bytes_eq-Decides xs ys).0 (not_false (bytes_eq xs ys) (sym is ∙ same))

pub differ_from_ne : (r : Bool) (xs ys : List ℕ) → r ≡ not (bytes_eq xs ys) → r ≡ true → xs ≡ ys → ⊥
differ_from_ne r xs ys is differs same = false≢true (sym (is ∙ ap not ((bytes_eq-Decides xs ys).1 same)) ∙ differs)
