use Rattle.std.proofs.Common.{◌≡◌, ◌<◌, ◌≤◌, ◌++◌, All, length, map, refl, sym, ap, subst, ◌∙◌, arith, ⊎_elim}
use Rattle.std.proofs.lemmas.Bool.{false≢true, cases_lt}
use Rattle.std.proofs.lemmas.List.{length-map}
use Rattle.bitcode_columns.specs.ByteColumn.{SpellsBytes, byte_text}
use Rattle.bitcode_memory.specs.Fast.{cow_rest}
use Rattle.bitcode_memory.specs.Ints.{residue, number_of, least, greatest}
use Rattle.bitcode_columns.proofs.BytePackingLemmas.{least_le_greatest}
use Rattle.bitcode_columns.proofs.StrictLemmas.{told_front, bare_judged, residues_back, numbers_are}
use Rattle.bitcode_columns.proofs.strict.read_bytes.Goals as goal

pub is_bytes_text-requires : goal.is_bytes_text-requires
is_bytes_text-requires g c =
    rw (c.in-Some.ensures.least, c.in-Some.ensures.greatest)
    (least_le_greatest (number_of 1 g.T.Int.signed) c.as_slice-entries.result.now (c.in-Some.ensures.variant.0 refl))

pub returns-clause-judged : goal.returns-clause-judged
returns-clause-judged g c strict =
    let read = c.in_ok-unpack_bytes.ensures.read in
    let entries = cow_rest c.unpack_bytes.new.out in
    let numbers = map (number_of 1 g.T.Int.signed) entries in
    let below : All (λ b. b < 256) entries = subst (All (λ b. b < 256)) c.as_slice-entries.ensures c.known_bytes.ensures in
    let is = c.taken-packed.ensures read.piece read.whole in
    let spelled : SpellsBytes c.taken-packed.result.now (map (residue 1) numbers)
    = rw (residues_back g.T.Int.signed entries below, is) read.spelled in
    let low : least numbers ≡ g.T.Int.number c.in-Some.bounds.0 = sym (rw c.as_slice-entries.ensures at c.in-Some.ensures.least) in
    let high : greatest numbers ≡ g.T.Int.number c.in-Some.bounds.1 = sym (rw c.as_slice-entries.ensures at c.in-Some.ensures.greatest) in
    told_front c.is_bytes_text.result c.args.input.now.now c.unpack_bytes.new.input.now c.taken-packed.result.now read.piece (byte_text numbers) read.whole is
    (c.is_bytes_text.ensures numbers (length-map entries (number_of 1 g.T.Int.signed) ∙ read.size) (numbers_are g.T.Int.signed entries below) low high spelled)

pub returns-in_default-clause-judged : goal.returns-in_default-clause-judged
returns-in_default-clause-judged g c strict =
    let read = c.in_ok-unpack_bytes.ensures.read in
    let entries = cow_rest c.unpack_bytes.new.out in
    let numbers = map (number_of 1 g.T.Int.signed) entries in
    let below : All (λ b. b < 256) entries = subst (All (λ b. b < 256)) c.as_slice-entries.ensures c.known_bytes.ensures in
    let none : length c.as_slice-entries.result.now ≤ 0
    = ⊎_elim (λ some. absurd (false≢true (c.in_default.ensures.variant.1 some))) (λ none. none) (cases_lt 0 (length c.as_slice-entries.result.now)) in
    let few : length numbers ≤ 2 = omega (arith, ap length c.as_slice-entries.ensures, length-map entries (number_of 1 g.T.Int.signed)) in
    let spelled : SpellsBytes read.piece (map (residue 1) numbers) = rw (residues_back g.T.Int.signed entries below) read.spelled in
    (λ told. read.whole ∙ ap (λ front. front ++ c.unpack_bytes.new.input.now) (bare_judged numbers read.piece few spelled), λ same. refl)
