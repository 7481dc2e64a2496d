use Rattle.std.proofs.Common.{◌≡◌, ◌≤◌, ◌++◌, length, map, refl, sym, ap, ◌∙◌, arith, ⊎_elim}
use Rattle.std.proofs.lemmas.Bool.{false≢true, cases_lt}
use Rattle.std.proofs.lemmas.List.{length-map}
use Rattle.bitcode_columns.specs.IntColumn.{SpellsInts, int_text}
use Rattle.bitcode_memory.specs.Fast.{cow_rest}
use Rattle.bitcode_memory.specs.Ints.{residue, number_of, least, greatest}
use Rattle.bitcode_memory.specs.LittleEndian.{little_endian}
use Rattle.bitcode_columns.proofs.BytePackingLemmas.{least_le_greatest}
use Rattle.bitcode_columns.proofs.StrictLemmas.{told_front}
use Rattle.bitcode_int_columns.proofs.StrictIntLemmas.{int_residues_back, int_numbers_are, none_told}
use Rattle.bitcode_int_columns.proofs.strict.read_ints.Goals as goal

pub is_ints_text-requires-clause-order : goal.is_ints_text-requires-clause-order
is_ints_text-requires-clause-order g c =
    let number_at = λ (u : g.row.T-Une.Denot). number_of g.T.Int.width g.T.Int.signed (little_endian (g.T.Int.une_bytes u)) in
    rw (c.in-Some.ensures.least, c.in-Some.ensures.greatest)
    (least_le_greatest number_at c.as_slice.result.now (c.in-Some.ensures.variant.0 refl))

pub returns-clause-judged : goal.returns-clause-judged
returns-clause-judged g c strict =
    let width = g.T.Int.width in
    let number_at = λ (u : g.row.T-Une.Denot). number_of width g.T.Int.signed (little_endian (g.T.Int.une_bytes u)) in
    let residue_at = λ (u : g.row.T-Une.Denot). little_endian (g.T.Int.une_bytes u) in
    let read = c.in_ok-unpack_ints.ensures.read in
    let entries = cow_rest c.unpack_ints.new.out in
    let numbers = map number_at entries in
    let back : map (residue width) numbers ≡ map residue_at entries = int_residues_back residue_at width g.T.Int.signed entries c.in_ok-unpack_ints.ensures.in_width in
    let is = c.taken-packed.ensures read.piece read.whole in
    let spelled : SpellsInts width c.taken-packed.result.now (map (residue width) numbers) = rw (back, is) read.spelled in
    let low : least numbers ≡ g.T.Int.number c.in-Some.bounds.0 = sym (rw c.as_slice.ensures at c.in-Some.ensures.least) in
    let high : greatest numbers ≡ g.T.Int.number c.in-Some.bounds.1 = sym (rw c.as_slice.ensures at c.in-Some.ensures.greatest) in
    told_front c.is_ints_text.result c.args.input.now.now c.unpack_ints.new.input.now c.taken-packed.result.now read.piece (int_text width numbers) read.whole is
    (c.is_ints_text.ensures numbers (length-map entries number_at ∙ sym (length-map entries residue_at) ∙ read.size)
    (int_numbers_are residue_at width g.T.Int.signed g.met.T.Int.width_law entries c.in_ok-unpack_ints.ensures.in_width) low high spelled)

pub returns-in_default-clause-judged : goal.returns-in_default-clause-judged
returns-in_default-clause-judged g c strict =
    let width = g.T.Int.width in
    let number_at = λ (u : g.row.T-Une.Denot). number_of width g.T.Int.signed (little_endian (g.T.Int.une_bytes u)) in
    let residue_at = λ (u : g.row.T-Une.Denot). little_endian (g.T.Int.une_bytes u) in
    let read = c.in_ok-unpack_ints.ensures.read in
    let entries = cow_rest c.unpack_ints.new.out in
    let none : length entries ≤ 0
    = ⊎_elim (λ some. absurd (false≢true (c.in_default.ensures.variant.1 (omega (arith, some, ap length c.as_slice.ensures))))) (λ none. none) (cases_lt 0 (length entries)) in
    (λ told. read.whole ∙ ap (λ front. front ++ c.unpack_ints.new.input.now) (none_told residue_at width g.T.Int.signed c.requires entries none read.piece read.spelled), λ same. refl)
