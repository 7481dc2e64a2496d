-- Numbers of one width that are written block by block.
use Rattle.std.proofs.Common.{◌≡◌, ℕ, ◌+◌, ◌*◌, ◌/◌, ◌<◌, ◌≤◌, List, [], ◌++◌, length, map, take, drop, get_or, refl, sym, ap, ◌∙◌, append_assoc, arith, lit≤}
use borrow.Rule.Slice.PartMut.{put_mid}
use Rattle.std.proofs.Math.Nat.{zero-mul, add-mul, mul-le-mul_right, div-mul-le_self}
use Rattle.std.proofs.Math.Seq.{take-add}
use Rattle.std.proofs.lemmas.List.{map-append}
use Rattle.std.proofs.lemmas.List.Concat.{flat_map-append}
use Rattle.std.proofs.lemmas.Slice.{take-put_mid}
use Rattle.bitcode_memory.specs.LittleEndian.{number_bytes, raw_text}
use Rattle.bitcode_memory.specs.IntWidths.{IsWidth}
use Rattle.bitcode_columns.proofs.IntColumnLemmas.{at_width}
use Rattle.bitcode_memory.proofs.LittleEndianLemmas.{length-number_bytes}
use Rattle.bitcode_int_columns.proofs.NarrowLemmas.{raw_more}

pub front_none : (width : ℕ) (bytes : List ℕ) → take (0 * width) bytes ≡ raw_text width []
unfolding raw_text
front_none width bytes = ap (λ n. take n bytes) (zero-mul width)

-- the place of the next number
pub next_place : (width i count : ℕ) → i < count → i * width + width ≤ count * width
next_place width i count before = omega (arith, add-mul i 1 width, mul-le-mul_right {m = i + 1} {n = count} width (omega arith))

pub front_more : {X : Type 0} (width : ℕ) (f : X → ℕ) (xs : List X) (i : ℕ) (d entry : X) (a k : ℕ) (before written : List ℕ) (value : ℕ)
    → i < length xs → entry ≡ get_or xs i d → length before ≡ length xs * width → take (i * width) before ≡ raw_text width (map f (take i xs))
    → value ≡ f entry → written ≡ number_bytes width value → a ≡ i * width
    → take ((i + 1) * width) (put_mid a k before written) ≡ raw_text width (map f (take (i + 1) xs))
front_more width f xs i d entry a k before written value h at size so_far is put start =
    let long : length written ≡ width = ap length put ∙ length-number_bytes width value in
    let place : a ≤ length before = omega (arith, next_place width i (length xs) h) in
    let taken : take ((i + 1) * width) (put_mid a k before written) ≡ take a before ++ written =
    take-put_mid a k before written ((i + 1) * width) (omega (arith, add-mul i 1 width)) place in
    raw_more width f xs i d entry [] (take (i * width) before) (take ((i + 1) * width) (put_mid a k before written)) value h at so_far is
    (taken ∙ ap (λ n. take n before ++ written) start ∙ ap (λ b. take (i * width) before ++ b) put)

-- the text of a list is that of a front of it and that of what is behind
pub raw_joined : {X : Type 0} (width : ℕ) (f : X → ℕ) (xs front back : List X) (start middle end : List ℕ) → xs ≡ front ++ back
    → middle ≡ start ++ raw_text width (map f front) → end ≡ middle ++ raw_text width (map f back) → end ≡ start ++ raw_text width (map f xs)
unfolding raw_text
raw_joined width f xs front back start middle end whole first second =
    second ∙ ap (λ m. m ++ raw_text width (map f back)) first ∙ append_assoc start (raw_text width (map f front)) (raw_text width (map f back))
    ∙ ap (λ b. start ++ b) (sym (flat_map-append (number_bytes width) (map f front) (map f back))
    ∙ ap (raw_text width) (sym (map-append f front back)) ∙ ap (λ ys. raw_text width (map f ys)) (sym whole))

-- one more block of a list
pub block_more : {X : Type 0} (size i : ℕ) (xs rest block : List X) → rest ≡ drop (i * size) xs → block ≡ take size rest
    → take ((i + 1) * size) xs ≡ take (i * size) xs ++ block
block_more size i xs rest block rest_is block_is =
    ap (λ n. take n xs) {y = i * size + size} (omega (arith, add-mul i 1 size)) ∙ take-add (i * size) size xs
    ∙ ap (λ ys. take (i * size) xs ++ take size ys) (sym rest_is) ∙ ap (λ ys. take (i * size) xs ++ ys) (sym block_is)

-- the next block has its place where all have theirs
pub block_room : (width size i count : ℕ) → i < count / size → 0 < size → i * size * width + size * width ≤ count * width
block_room width size i count before some =
    let next : (i + 1) * size ≤ count / size * size = mul-le-mul_right size (omega arith) in
    let fits : i * size + size ≤ count = omega (arith, next, add-mul i 1 size, div-mul-le_self count size) in
    omega (arith, mul-le-mul_right {m = i * size + size} {n = count} width fits, add-mul (i * size) size width)

-- a block has its place for some numbers of each width
pub some_in_block : (width : ℕ) → IsWidth width → 1 ≤ 1024 / width
some_in_block = at_width (λ width. 1 ≤ 1024 / width) (lit≤ tt) (lit≤ tt) (lit≤ tt) (lit≤ tt) (lit≤ tt)

-- and has just its size
pub whole_block : (width : ℕ) → IsWidth width → 1024 / width * width ≡ 1024
whole_block = at_width (λ width. 1024 / width * width ≡ 1024) refl refl refl refl refl
