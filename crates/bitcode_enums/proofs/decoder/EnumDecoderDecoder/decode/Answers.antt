-- A value is made of the next payload of its variant.
use Rattle.std.proofs.Common.{◌<◌, length, sym, subst, arith}
use Rattle.bitcode_parts.specs.Payloads.{payloads_of, choices_of}
use Rattle.bitcode_parts.specs.Variants.{variants_left}
use Rattle.bitcode_enums.specs.ByNumberLaws.{from_zero}
use Rattle.bitcode_enums.proofs.ReadingLemmas.{some_payload}
use Rattle.bitcode_enums.proofs.PayloadReadingLemmas.{some_list}
use Rattle.bitcode_enums.proofs.decoder.EnumDecoderDecoder.decode.Goals as goal

pub decode_at-requires : goal.decode_at-requires
decode_at-requires g c =
    let all = g.met.D.PayloadsOf.counted.lists c.args.self.now.payloads in
    let left : 0 < length (payloads_of c.decode-variant.result (g.D.HoldsPayloads.held.lists c.args.self.now.payloads)) =
    some_payload c.decode-variant.result (variants_left c.decode-variant.new.self) (g.D.HoldsPayloads.held.lists c.args.self.now.payloads)
    (subst (λ vs. 0 < length (choices_of vs (g.D.HoldsPayloads.held.lists c.args.self.now.payloads))) c.decode-variant.ensures.taken c.requires) in
    let among = some_list c.decode-variant.result (g.D.HoldsPayloads.held.lists c.args.self.now.payloads) left in
    record {
      known = (omega arith, omega (arith, among, all));
      left = subst (λ n. 0 < length (payloads_of n (g.D.HoldsPayloads.held.lists c.args.self.now.payloads))) (sym (from_zero c.decode-variant.result)) left;
    }
