-- By the texts, one after the other.
use Rattle.bitcode_coder.proofs.JoinedTextLemmas.{are_utf8_as_joined}
use Rattle.bitcode_coder.proofs.laws.joined_texts.Goals as goal

pub returns : goal.returns
returns c texts = are_utf8_as_joined texts
