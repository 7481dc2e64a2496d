-- The bytes are refused for the earlier type, or memory runs out.
use Rattle.std.proofs.Common.{rules}
use Rattle.std.proofs.lemmas.Result.{err_from_is_err_and}
use Rattle.bitcode_sealed.specs.Versions.{earlier_not_opened}
use Rattle.bitcode_sealed.proofs.versions.VersionReadsVersions.open_earlier.Goals as goal

pub returns-in_err-before-clause-refused : goal.returns-in_err-before-clause-refused
returns-in_err-before-clause-refused g c =
    let p = err_from_is_err_and c.from_residual.result c.from_residual.ensures.1 in
    rw (p.1, p.2) (earlier_not_opened (search (rules, c.requires)) c.in_err-before.ensures.refused)
