-- Narrow numbers are read, and widened by the least entry.
use Rattle.std.proofs.Common.{◌≡◌, ℕ, zero, suc, ◌+◌, ◌*◌, ◌%◌, ◌^◌, ◌<◌, Bool, ℤ, List, [], ◌∷◌, ◌++◌, map, take, drop, sym, ap, ◌∙◌, subst, arith, add-one}
use Rattle.std.proofs.Math.Nat.{add-mod, mod-mod, mod-lt, one-le-pow}
use Rattle.std.proofs.lemmas.List.{map-append, drop-drop}
use Rattle.std.specs.Simd.{first_chunks}
use Rattle.bitcode_memory.specs.LittleEndian.{little_endian, number_bytes}
use Rattle.bitcode_memory.specs.Ints.{residue, number_of}
use Rattle.bitcode_memory.proofs.IntLemmas.{residue-number_of}
use Rattle.bitcode_memory.proofs.LittleEndianLemmas.{little_endian-number_bytes}

-- a sum of residues is the residue of the sum
pub mod-add_first : (a b m : ℕ) → (a % m + b) % m ≡ (a + b) % m
mod-add_first a b m = add-mod (a % m) b m ∙ (ap (λ r. (r + b % m) % m) (mod-mod a m) ∙ sym (add-mod a b m))

pub widened_is : (width uwidth low narrow wide sum : ℕ) (signed : Bool) (z : ℤ) (bytes : List ℕ) → uwidth ≡ width → 0 < 256 ^ width
    → wide ≡ narrow % 256 ^ uwidth → sum ≡ (wide + low) % 256 ^ uwidth → z ≡ number_of width signed sum → bytes ≡ number_bytes width (residue width z)
    → little_endian bytes ≡ (narrow + low) % 256 ^ width
widened_is width uwidth low narrow wide sum signed z bytes same some wide_is sum_is z_is bytes_is =
    let P : ℕ → Type 0 = λ w. sum ≡ (narrow % 256 ^ w + low) % 256 ^ w in
    let sum_of : sum ≡ (narrow % 256 ^ width + low) % 256 ^ width = subst P same (sum_is ∙ ap (λ x. (x + low) % 256 ^ uwidth) wide_is) in
    let is : sum ≡ (narrow + low) % 256 ^ width = sum_of ∙ mod-add_first narrow low (256 ^ width) in
    let below : sum < 256 ^ width = subst (λ x. x < 256 ^ width) (sym is) (mod-lt (narrow + low) some) in
    ap little_endian (bytes_is ∙ ap (λ x. number_bytes width (residue width x)) z_is)
    ∙ ap (λ x. little_endian (number_bytes width x)) (residue-number_of width signed sum below)
    ∙ little_endian-number_bytes width sum below
    ∙ is

chunks_suc : {X : Type 0} (size i : ℕ) (xs : List X) → first_chunks size (suc i) xs ≡ first_chunks size i xs ++ take size (drop (i * size) xs) ∷ []
chunks_suc size zero xs = let e : zero * size ≡ 0 = omega arith in rw e
chunks_suc size (suc i) xs =
    let e : suc i * size ≡ size + i * size = omega arith in
    ap (λ rest. take size xs ∷ rest) (chunks_suc size i (drop size xs))
    ∙ ap (λ ys. (take size xs ∷ first_chunks size i (drop size xs)) ++ take size ys ∷ []) (drop-drop (i * size) size xs ∙ ap (λ n. drop n xs) (sym e))

pub some_numbers : (width : ℕ) → 0 < 256 ^ width
some_numbers width = one-le-pow width 256 (omega arith)

-- one more number is widened
pub numbers_more : (size i low modulus : ℕ) (bytes rest : List ℕ) (so_far : List ℕ) (number wide entry : ℕ)
    → so_far ≡ map (λ n. (n + low) % modulus) (map little_endian (first_chunks size i bytes)) → rest ≡ drop (i * size) bytes
    → number ≡ little_endian (take size rest) → wide ≡ number → entry ≡ (wide + low) % modulus
    → so_far ++ entry ∷ [] ≡ map (λ n. (n + low) % modulus) (map little_endian (first_chunks size (i + 1) bytes))
numbers_more size i low modulus bytes rest so_far number wide entry so rest_is number_is wide_is entry_is =
    let value : entry ≡ (little_endian (take size (drop (i * size) bytes)) + low) % modulus =
    entry_is ∙ ap (λ n. (n + low) % modulus) (wide_is ∙ (number_is ∙ ap (λ r. little_endian (take size r)) rest_is)) in
    let F : ℕ → ℕ = λ n. (n + low) % modulus in
    let chunk = take size (drop (i * size) bytes) in
    let chunks : first_chunks size (i + 1) bytes ≡ first_chunks size i bytes ++ chunk ∷ [] =
    ap (λ n. first_chunks size n bytes) (add-one i) ∙ chunks_suc size i bytes in
    ap (λ xs. xs ++ entry ∷ []) so ∙ ap (λ n. map F (map little_endian (first_chunks size i bytes)) ++ n ∷ []) value
    ∙ sym (ap (λ cs. map F (map little_endian cs)) chunks
    ∙ ap (map F) (map-append little_endian (first_chunks size i bytes) (chunk ∷ []))
    ∙ map-append F (map little_endian (first_chunks size i bytes)) (little_endian chunk ∷ []))

pub rest_more : (size i : ℕ) (bytes rest behind : List ℕ) → rest ≡ drop (i * size) bytes → behind ≡ drop size rest → behind ≡ drop ((i + 1) * size) bytes
rest_more size i bytes rest behind rest_is behind_is =
    let e : (i + 1) * size ≡ i * size + size = omega arith in
    behind_is ∙ ap (drop size) rest_is ∙ drop-drop size (i * size) bytes ∙ ap (λ n. drop n bytes) (sym e)
