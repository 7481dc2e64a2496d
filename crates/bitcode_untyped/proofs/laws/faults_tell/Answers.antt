-- By the values, level by level.
use Rattle.bitcode_untyped.proofs.AgreementLemmas.{faults_tell}
use Rattle.bitcode_untyped.proofs.laws.faults_tell.Goals as goal

pub returns : goal.returns
returns c = faults_tell
