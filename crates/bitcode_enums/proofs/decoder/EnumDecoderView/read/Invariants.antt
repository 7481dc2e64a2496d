-- The payloads of the variants up to the one at hand were read.
use Rattle.std.proofs.Common.{◌≡◌, IsTrue, length}
use Rattle.bitcode_columns.specs.Reading.{IsEndOf}
use Rattle.bitcode_parts.specs.Variants.{variants_left}
use Rattle.bitcode_coder.specs.ColumnFree.{saturated}
use Rattle.bitcode_enums.proofs.ColumnFreeLemmas.{free_to}
use Rattle.bitcode_enums.proofs.PayloadReadingLemmas.{ReadTo}
use Rattle.bitcode_enums.proofs.StrictLemmas.{JudgedTo}
use Rattle.bitcode_enums.proofs.decoder.EnumDecoderView.read.Given as goal

abbrev pub invariant-loop-number : goal.invariant-loop-number
invariant-loop-number g l = record {
  size : length (g.D.HoldsPayloads.held.lists l.self.payloads) ≡ g.row.N;
  variants : l.self.variants ≡ l.initial.self.variants;
  read : ReadTo g.T.Enum.each.variants.shapes (variants_left l.initial.self.variants) l.initial.input.now l.number (g.D.HoldsPayloads.held.lists l.self.payloads) l.input.now;
  rest : IsEndOf l.initial.input.now l.input.now;
  free : l.free ≡ saturated (free_to l.number g.T.Enum.each.variants.shapes (g.D.HoldsPayloads.held.lists l.self.payloads));
  judged : IsTrue l.strict → JudgedTo g.T.Enum.each.variants.shapes l.initial.input.now l.initial.written l.number (g.D.HoldsPayloads.held.lists l.self.payloads) l.written l.input.now;
}
