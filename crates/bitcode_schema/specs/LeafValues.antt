-- The datum of a value that has a case of its own.
use Rattle.std.specs.Prelude.{◌≡◌, Option, Some}
use Rattle.std.proofs.Common.{sym, ap, ◌∙◌}
use Rattle.bitcode_shapes.specs.Datum.{Datum, unit}
use Rattle.bitcode_untyped.specs.Leaves.{Leaf, entry_of}
use Rattle.bitcode_untyped.specs.declared.value.Value.{Value}
use Rattle.bitcode_untyped.specs.declared.value.Value.TheOpen.{Value-F}
use Rattle.bitcode_untyped.specs.declared.value.Value.TheViews.{roll-Value, out-roll-Value}
use Rattle.bitcode_untyped.specs.declared.value.Value.TheVariants as value
use Rattle.bitcode_schema.specs.Forms.{leaf_content}
use Rattle.bitcode_schema.specs.Making.{payload_unit}
use Rattle.bitcode_schema.specs.Parts.{unit_content}
use Rattle.bitcode_schema.specs.Leaves.{datum_in}

-- what the entry of the case is
pub leaf_made : (case : Option Leaf) (layer : Value-F Value) (v : Value) (d e : Datum) → roll-Value layer ≡ v → datum_in case (entry_of layer) ≡ Some e → d ≡ e
    → leaf_content case v ≡ Some d
leaf_made case layer v d e rolls is same =
    ap (leaf_content case) (sym rolls) ∙ ap (λ l. datum_in case (entry_of l)) (out-roll-Value layer) ∙ is ∙ ap Some (sym same)

pub unit_made : (d : Datum) → d ≡ unit → payload_unit value.Unit ≡ Some d
unit_made d is = ap payload_unit (sym value.rolls-Unit) ∙ ap unit_content (out-roll-Value Value-F.Unit) ∙ ap Some (sym is)
