-- A node that is no leaf.
use Rattle.std.proofs.Common.{refl}
use Rattle.bitcode_untyped.specs.declared.shape.ShapeNode.TheOpen.{ShapeNode-F}
use Rattle.bitcode_untyped.specs.declared.shape.ShapeNode.TheVariants as node
use Rattle.bitcode_serde.proofs.LeafEntryLemmas.{no_leaf}
use Rattle.bitcode_serde.proofs.column.column_kind.Goals as goal

pub returns-in-Unit-clause-none : goal.returns-in-Unit-clause-none
returns-in-Unit-clause-none c = no_leaf ShapeNode-F.Unit _ _ node.rolls-Unit c.in-Unit.is refl

pub returns-in-Bytes-clause-none : goal.returns-in-Bytes-clause-none
returns-in-Bytes-clause-none c = no_leaf ShapeNode-F.Bytes _ _ node.rolls-Bytes c.in-Bytes.is refl

pub returns-in-Option-clause-none : goal.returns-in-Option-clause-none
returns-in-Option-clause-none c = no_leaf (ShapeNode-F.Option _) _ _ (node.rolls-Option _) c.in-Option.is refl

pub returns-in-Seq-clause-none : goal.returns-in-Seq-clause-none
returns-in-Seq-clause-none c = no_leaf (ShapeNode-F.Seq _) _ _ (node.rolls-Seq _) c.in-Seq.is refl

pub returns-in-Map-clause-none : goal.returns-in-Map-clause-none
returns-in-Map-clause-none c = no_leaf (ShapeNode-F.Map _ _) _ _ (node.rolls-Map _ _) c.in-Map.is refl

pub returns-in-Tuple-clause-none : goal.returns-in-Tuple-clause-none
returns-in-Tuple-clause-none c = no_leaf (ShapeNode-F.Tuple _) _ _ (node.rolls-Tuple _) c.in-Tuple.is refl

pub returns-in-Enum-clause-none : goal.returns-in-Enum-clause-none
returns-in-Enum-clause-none c = no_leaf (ShapeNode-F.Enum _) _ _ (node.rolls-Enum _) c.in-Enum.is refl

pub returns-in-Ref-clause-none : goal.returns-in-Ref-clause-none
returns-in-Ref-clause-none c = no_leaf (ShapeNode-F.Ref _) _ _ (node.rolls-Ref _) c.in-Ref.is refl
