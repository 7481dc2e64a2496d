-- A byte column is read, and each byte is the number that it alone stands for.
use Rattle.std.proofs.Common.{◌≡◌, ◌^◌, ◌<◌, ◌++◌, [], ◌∷◌, All, map, IsTrue, IfOk, refl, sym, ap, subst, ◌∙◌}
use Rattle.std.specs.Prelude.{◌↔◌}
use Rattle.std.proofs.lemmas.Result.{on_ok_weaker}
use Rattle.std.proofs.lemmas.Simd.{map-map}
use Rattle.bitcode_columns.specs.ByteColumn.{SpellsBytes, byte_text}
use Rattle.bitcode_columns.specs.IntColumn.{int_text}
use Rattle.bitcode_memory.specs.Ints.{number_of}
use Rattle.bitcode_memory.specs.LittleEndian.{little_endian}
use Rattle.bitcode_memory.specs.Fast.{cow_rest}
use Rattle.bitcode_columns.specs.Reading.{Reads}
use Rattle.bitcode_int_columns.proofs.AppendLemmas.{int_text_bytes}
use Rattle.bitcode_int_columns.proofs.IntReadingLemmas.{bytes_alone, entries_in_width}
use Rattle.bitcode_int_columns.proofs.column_int.unpack_each_byte.Goals as goal

pub returns-clause-read : goal.returns-clause-read
returns-clause-read g c =
    on_ok_weaker c.read_bytes.result
    (subst (λ entries. Reads SpellsBytes c.args.count c.args.input.now.now entries c.read_bytes.new.input.now) (sym (bytes_alone (cow_rest c.read_bytes.new.out))))
    c.read_bytes.ensures.read

pub returns-clause-in_width : goal.returns-clause-in_width
returns-clause-in_width g c =
    on_ok_weaker c.read_bytes.result
    (λ r. subst (All (λ n. n < 256 ^ 1)) (sym (bytes_alone (cow_rest c.read_bytes.new.out)))
    (entries_in_width 1 c.args.count _ _ _ c.known_bytes.ensures r))
    c.read_bytes.ensures.read

pub returns-clause-judged : goal.returns-clause-judged
returns-clause-judged g c strict =
    let bytes = cow_rest c.read_bytes.new.out in
    let signed = g.T.Int.signed in
    let same : int_text 1 (map (λ byte. number_of 1 signed (little_endian (byte ∷ []))) bytes) ≡ byte_text (map (number_of 1 signed) bytes)
    = int_text_bytes 1 (map (λ byte. number_of 1 signed (little_endian (byte ∷ []))) bytes) refl
    ∙ ap byte_text (sym (map-map (number_of 1 signed) (λ byte. little_endian (byte ∷ [])) bytes) ∙ ap (map (number_of 1 signed)) (bytes_alone bytes)) in
    subst (λ text. IfOk c.read_bytes.result (λ written. IsTrue written ↔ (c.args.input.now.now ≡ text ++ c.read_bytes.new.input.now))) (sym same)
    (c.read_bytes.ensures.judged strict)
