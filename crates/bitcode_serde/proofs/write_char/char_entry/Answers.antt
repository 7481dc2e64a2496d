-- A char is an entry of its column, and any other value has a fault.
use Rattle.std.proofs.Common.{rules, refl}
use Rattle.std.specs.Char.{IsScalar}
use Rattle.bitcode_untyped.specs.declared.shape.ShapeNode.TheVariants as node
use Rattle.bitcode_serde.specs.Serializing.{HasOneFault}
use Rattle.bitcode_serde.proofs.ColumnLemmas.{passed_on}
use Rattle.bitcode_serde.proofs.LeafEntryLemmas.{entry-Char, fault-Char}
use Rattle.bitcode_serde.proofs.write_char.char_entry.Goals as goal

pub returns-in-Char-clause-entry : goal.returns-in-Char-clause-entry
returns-in-Char-clause-entry c =
    let is_char : IsScalar c.in-Char.c = search rules in
    entry-Char c.args.value.now c.in-Char.c c.in-Char.is is_char

pub returns-in_default-clause-refused : goal.returns-in_default-clause-refused
returns-in_default-clause-refused c =
    passed_on (λ e. HasOneFault node.Char c.args.value.now e.reason) c.err.result _ _ c.err.ensures refl (fault-Char c.args.value.now c.in_default.not-Char)
