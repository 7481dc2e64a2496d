-- What is known of an enum, from what it states about its variants.
use Rattle.std.proofs.Common.{refl, subst, sym}
use Rattle.bitcode_shapes.specs.BareVariants.{AreSomeVariants}
use Rattle.bitcode_shapes.specs.DataOf.{DataOf, plain_data}
use Rattle.bitcode_shapes.specs.LawfulChoices.{choice_makeable}
use Rattle.bitcode_shapes.specs.SameArrays.{choice_same_arrays}
use Rattle.bitcode_shapes.specs.SameData.{choices_same_data}
use Rattle.bitcode_shapes.specs.Shape.{variant_count}
use Rattle.bitcode_enums.specs.LawfulVariants.{some_choices_lawful}
use Rattle.bitcode_enums.specs.EachVariant.{EachVariant}
use Rattle.bitcode_enums.specs.VariantsOf.{VariantsOf}

pub some_variants : {T : Type 0} (each : EachVariant T) → AreSomeVariants (variant_count each.variants.shapes)
some_variants each = subst (λ (vs : VariantsOf _). AreSomeVariants (variant_count vs.shapes)) (sym each.variants_are) each.sized

abbrev pub enum_data : {T : Type 0} → EachVariant T → DataOf T
enum_data each =
    plain_data (some_choices_lawful refl (some_variants each) each.laws.lawful) (choice_makeable each.laws.makeable) (choice_same_arrays each.laws.same_arrays)
    (choices_same_data each.laws.same_data) each.laws.are_exact
