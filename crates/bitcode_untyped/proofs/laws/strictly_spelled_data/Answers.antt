-- The laws of strict spelling.
use Rattle.bitcode_untyped.proofs.StrictLemmas.{strict_once, strict_is_text, written_strictly}
use Rattle.bitcode_untyped.proofs.laws.strictly_spelled_data.Goals as goal

pub returns-clause-once : goal.returns-clause-once
returns-clause-once c = strict_once

pub returns-clause-text : goal.returns-clause-text
returns-clause-text c = strict_is_text

pub returns-clause-written : goal.returns-clause-written
returns-clause-written c = written_strictly
