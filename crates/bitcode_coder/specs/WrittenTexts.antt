-- The texts that an encoder of texts holds.
use Rattle.std.specs.Prelude.{ℕ, List}
use Rattle.bitcode_coder.specs.declared.str.encoder.StrEncoder.{StrEncoder}
use Rattle.bitcode_coder.specs.PushedTexts.{texts_in}

-- the texts that were written
abbrev pub written_texts : StrEncoder → List (List ℕ)
written_texts e = texts_in e.lengths e.bytes
