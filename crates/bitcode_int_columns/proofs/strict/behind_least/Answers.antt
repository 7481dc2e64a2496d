use Rattle.std.proofs.Common.{◌≡◌, ◌≤◌, ◌++◌, length, take, drop, sym, ap, ◌∙◌, arith, ⊎_elim}
use Rattle.std.proofs.lemmas.Bool.{cases_lt, false≢true}
use Rattle.bitcode_memory.specs.Ints.{residue}
use Rattle.bitcode_memory.specs.LittleEndian.{little_endian, number_bytes}
use Rattle.bitcode_memory.proofs.IntLemmas.{residue_below}
use Rattle.bitcode_int_columns.proofs.StrictIntLemmas.{least_front, front_least}
use Rattle.bitcode_int_columns.proofs.strict.behind_least.Goals as goal

pub returns-then-to_wide : goal.returns-then-to_wide
returns-then-to_wide g c =
    let width = g.T.Int.width in
    let behind = c.args.behind.now in
    let same = g.met.T.Int.unsigned_law in
    let is : little_endian (take width behind) ≡ residue width (g.T.Int.number c.args.least) =
    ap (λ w. little_endian (take w behind)) (sym same) ∙ sym c.in-Ok.ensures.taken ∙ sym c.to_wide.ensures.same ∙ c.if-to_wide.true ∙ c.to_wide-2.ensures.same
    ∙ c.to_unsigned.ensures.value in
    let enough : width ≤ length behind =
    ⊎_elim (λ few. absurd (false≢true (c.in-Ok.ensures.refused.1 (omega (arith, few, same))))) (λ h. h) (cases_lt (length behind) width) in
    least_front width (residue width (g.T.Int.number c.args.least)) behind c.known_bytes.ensures enough is
    ∙ ap (λ rest. number_bytes width (residue width (g.T.Int.number c.args.least)) ++ rest) (ap (λ w. drop w behind) (sym same) ∙ sym c.in-Ok.ensures.rest)

pub returns-else-to_wide : goal.returns-else-to_wide
returns-else-to_wide g c body whole =
    let width = g.T.Int.width in
    let behind = c.args.behind.now in
    let front = front_least width (residue width (g.T.Int.number c.args.least)) behind body
    (residue_below width g.T.Int.signed (g.T.Int.number c.args.least) c.to_unsigned.ensures.in_range) whole in
    c.if-to_wide.false
    (c.to_wide.ensures.same ∙ c.in-Ok.ensures.taken ∙ ap (λ w. little_endian (take w behind)) g.met.T.Int.unsigned_law ∙ front.1 ∙ sym c.to_unsigned.ensures.value ∙ sym c.to_wide-2.ensures.same)
