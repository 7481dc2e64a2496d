-- What the coders of variants hold.
use Rattle.std.specs.Prelude.{ℕ, List}
use Rattle.bitcode_memory.specs.Fast.{fast_items, fast_room, fast_capacity, cow_rest, cow_owned}
use Rattle.bitcode_parts.specs.declared.choices.variant.VariantEncoder.{VariantEncoder}
use Rattle.bitcode_parts.specs.declared.choices.variant.VariantDecoder.{VariantDecoder}

module _ {N : ℕ} where
  -- the variants that were written
  unfoldable pub written_variants : VariantEncoder N → List ℕ
  written_variants e = fast_items e.variants

  -- the room for more variants
  unfoldable pub variant_room : VariantEncoder N → ℕ
  variant_room e = fast_room e.variants

  -- how many variants fit in its memory, including those that it holds
  unfoldable pub variant_capacity : VariantEncoder N → ℕ
  variant_capacity e = fast_capacity e.variants

-- (a const argument that is a bool is its bit)
module _ {N C_STYLE : ℕ} where
  -- the remaining variants
  unfoldable pub variants_left : VariantDecoder N C_STYLE → List ℕ
  variants_left d = cow_rest d.variants

  -- how many variants fit in the memory that it owns
  unfoldable pub variants_owned : VariantDecoder N C_STYLE → ℕ
  variants_owned d = cow_owned d.variants

  -- how many of each variant were read, by index
  unfoldable pub variant_counts : VariantDecoder N C_STYLE → List ℕ
  variant_counts d = d.counts
