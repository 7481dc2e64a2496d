-- The byte joins its column.
use Rattle.std.proofs.Common.{pos, refl}
use Rattle.bitcode_memory.specs.Fast.{fast_items}
use Rattle.bitcode_shapes.specs.Shape.{raw_shape}
use Rattle.bitcode_shapes.specs.Ints.{ListsNumber}
use Rattle.bitcode_coder.specs.Columns.{raws}
use Rattle.bitcode_coder.specs.Spelling.{natural}
use Rattle.bitcode_coder.proofs.OneColumnLemmas.{joins_entry}
use Rattle.bitcode_ints.proofs.u8_char.U8CharEncoderEncoderU8Char.encode.Goals as goal

pub returns-clause-joined : goal.returns-clause-joined
returns-clause-joined c =
    joins_entry (ListsNumber (λ t. pos t.0)) raw_shape raws natural c.args.t.now c.args.t.now.0
    (fast_items c.args.self.now.bytes) (fast_items c.push_unchecked.new.self) (λ ds. refl) refl c.push_unchecked.ensures.items
