-- What was sealed is opened again.
use Rattle.std.proofs.Common.{◌≡◌, ℕ, ◌+◌, ◌^◌, ◌<◌, List, ◌++◌, length, take, drop, refl, sym, ap, ◌∙◌, arith, length-append, append_assoc}
use Rattle.std.proofs.lemmas.List.{take_at, drop_at}
use Rattle.bitcode_memory.specs.LittleEndian.{little_endian, number_bytes}
use Rattle.bitcode_memory.proofs.LittleEndianLemmas.{little_endian-number_bytes}
use Rattle.bitcode_sealed.specs.declared.label.Label.{Label}
use Rattle.bitcode_sealed.specs.declared.head.Head.{Head}
use Rattle.bitcode_sealed.specs.Crc.{crc_32}
use Rattle.bitcode_sealed.specs.Layout.{checked, head_bytes, sealed, BeginsWithHead}
use Rattle.bitcode_sealed.proofs.DamageLemmas.{length-checked, length-head_bytes}

-- what a head says is read from its bytes
pub version_said : (head : Head) (behind : List ℕ) → head.label.version < 256 ^ 2 → little_endian (take 2 (drop 2 (head_bytes head ++ behind))) ≡ head.label.version
unfolding checked
version_said head behind below = little_endian-number_bytes 2 head.label.version below

pub kind_said : (head : Head) (behind : List ℕ) → head.label.kind < 256 ^ 4 → little_endian (take 4 (drop 4 (head_bytes head ++ behind))) ≡ head.label.kind
unfolding checked
kind_said head behind below = little_endian-number_bytes 4 head.label.kind below

pub size_said : (head : Head) (behind : List ℕ) → head.size < 256 ^ 8 → little_endian (take 8 (drop 8 (head_bytes head ++ behind))) ≡ head.size
unfolding checked
size_said head behind below = little_endian-number_bytes 8 head.size below

-- an input begins with at most one head
pub same_head : (head other : Head) (input : List ℕ) → BeginsWithHead head input → BeginsWithHead other input → head ≡ other
same_head head other input begins again =
    let made : ℕ → ℕ → ℕ → Head = λ kind version size. record { label = record { kind = kind; version = version }; size = size } in
    let same : head_bytes head ++ begins.behind ≡ head_bytes other ++ again.behind = sym begins.whole ∙ again.whole in
    let kinds : head.label.kind ≡ other.label.kind =
    sym (kind_said head begins.behind begins.kind_fits) ∙ ap (λ l. little_endian (take 4 (drop 4 l))) same ∙ kind_said other again.behind again.kind_fits in
    let versions : head.label.version ≡ other.label.version =
    sym (version_said head begins.behind begins.version_fits) ∙ ap (λ l. little_endian (take 2 (drop 2 l))) same ∙ version_said other again.behind again.version_fits in
    let sizes : head.size ≡ other.size =
    sym (size_said head begins.behind begins.size_fits) ∙ ap (λ l. little_endian (take 8 (drop 8 l))) same ∙ size_said other again.behind again.size_fits in
    ap (λ k. made k head.label.version head.size) kinds ∙ ap (λ v. made other.label.kind v head.size) versions
    ∙ ap (λ s. made other.label.kind other.label.version s) sizes

-- two checked parts of one length
same_part : (x y rest : List ℕ) → length x ≡ length y → checked x ≡ checked y ++ rest → x ≡ y
unfolding checked
same_part x y rest same e =
    sym (take_at x (number_bytes 4 (crc_32 x)) (length y) same) ∙ ap (take (length y)) e
    ∙ ap (take (length y)) (append_assoc y (number_bytes 4 (crc_32 y)) rest) ∙ take_at y (number_bytes 4 (crc_32 y) ++ rest) (length y) refl

-- the value that is sealed in bytes is the one that was sealed in them
pub only_value : (label other : Label) (was value rest bytes : List ℕ) → length bytes < 256 ^ 8 → bytes ≡ sealed label was → bytes ≡ sealed other value ++ rest
    → value ≡ was
unfolding sealed
only_value label other was value rest bytes below first second =
    let head : Head = record { label = label; size = length was } in
    let head_2 : Head = record { label = other; size = length value } in
    let second_2 : bytes ≡ head_bytes head_2 ++ (checked value ++ rest) = second ∙ append_assoc (head_bytes head_2) (checked value) rest in
    let long : length bytes ≡ length (head_bytes head) + length (checked was) = ap length first ∙ length-append (head_bytes head) (checked was) in
    let long_2 : length bytes ≡ length (head_bytes head_2) + length (checked value ++ rest) = ap length second_2 ∙ length-append (head_bytes head_2) (checked value ++ rest) in
    let rest_long = length-append (checked value) rest in
    let h = length-head_bytes head in
    let h2 = length-head_bytes head_2 in
    let c = length-checked was in
    let c2 = length-checked value in
    let b : length was < 256 ^ 8 = omega (arith, below, long, h, c) in
    let b2 : length value < 256 ^ 8 = omega (arith, below, long_2, h2, c2, rest_long) in
    let sizes : length was ≡ length value =
    sym (size_said head (checked was) b) ∙ ap (λ l. little_endian (take 8 (drop 8 l))) (sym first ∙ second_2) ∙ size_said head_2 (checked value ++ rest) b2 in
    let behind : checked was ≡ checked value ++ rest =
    sym (drop_at (head_bytes head) (checked was) 20 h) ∙ ap (drop 20) (sym first ∙ second_2) ∙ drop_at (head_bytes head_2) (checked value ++ rest) 20 h2 in
    sym (same_part was value rest sizes behind)
