-- Some value is there.
use Rattle.std.proofs.Common.{length, map, inr, refl, arith, sym}
use Rattle.std.proofs.lemmas.Bool.{eqb-false}
use Rattle.std.proofs.lemmas.List.{length-map}
use Rattle.bitcode_schema.proofs.CaseWritingLemmas.{stranger_never}
use Rattle.bitcode_schema.proofs.write.write_never.Goals as goal

pub returns-clause-refused : goal.returns-clause-refused
returns-clause-refused c content =
    rw c.err.ensures (inr (
      refl,
      stranger_never content (map (λ v. v.now) c.args.values.now)
          (omega (arith, length-map c.args.values.now (λ v. v.now), eqb-false (length c.args.values.now) 0 (sym c.if-is_empty.ensures))),
    ))
