-- The unsigned integer of an integer has its width.
use Rattle.std.proofs.Common.{◌++◌, ◌%◌, ◌^◌, map, ap₂, ◌∙◌}
use Rattle.std.proofs.lemmas.Result.{on_ok_weaker}
use Rattle.bitcode_memory.specs.LittleEndian.{raw_text}
use Rattle.bitcode_int_columns.specs.Narrowing.{above}
use Rattle.bitcode_int_columns.proofs.AppendLemmas.{no_base}
use Rattle.bitcode_int_columns.proofs.pack_ints.write.write_whole.Goals as goal

pub returns-clause-written : goal.returns-clause-written
returns-clause-written g c =
    on_ok_weaker c.write_numbers.result
    (λ written. written
    ∙ ap₂ (λ width base. c.args.out.now.items ++ raw_text width (map (λ e. above g.T.Int.width base (g.T.Int.number e) % 256 ^ width) c.args.entries.now))
    g.met.T.Int.unsigned_law (no_base _ _ c.from_wide.ensures))
    c.write_numbers.ensures.written
