-- A length is taken as a number of eight bytes.
use Rattle.bitcode_coder.specs.Spelling.{natural}
use Rattle.bitcode_untyped.specs.declared.value.Value.TheOpen.{Value-F}
use Rattle.bitcode_untyped.specs.declared.value.Value.TheVariants as value
use Rattle.bitcode_untyped.proofs.LeafLemmas.{rolled_entry, leaf_datum}
use Rattle.bitcode_serde.proofs.ColumnLemmas.{length_taken}
use Rattle.bitcode_serde.proofs.read_column.next_length.Goals as goal

pub returns-clause-taken : goal.returns-clause-taken
returns-clause-taken c =
    let n = c.decode.result in
    length_taken n (value.U64 n) _ _ c.decode.ensures.taken (leaf_datum (value.U64 n) _ (rolled_entry (Value-F.U64 n) (value.U64 n) (value.rolls-U64 n)))

pub returns-clause-of_case : goal.returns-clause-of_case
returns-clause-of_case c = let n = c.decode.result in (natural n, rolled_entry (Value-F.U64 n) (value.U64 n) (value.rolls-U64 n))
