-- The laws of strict spelling.
use Rattle.bitcode_coder.proofs.StrictLemmas.{strict_once}
use Rattle.bitcode_coder.proofs.StrictLawLemmas.{strict_is_text, written_strictly}
use Rattle.bitcode_coder.proofs.laws.strict_data.Goals as goal

pub returns-clause-once : goal.returns-clause-once
returns-clause-once c = strict_once

pub returns-clause-text : goal.returns-clause-text
returns-clause-text c = strict_is_text

pub returns-clause-written : goal.returns-clause-written
returns-clause-written c = written_strictly
