-- The bytes of the value are those that were sealed, and they are decoded.
use Rattle.std.proofs.Common.{◌≡◌, ◌<◌, ◌^◌, [], length, arith, sym, subst}
use Rattle.bitcode_derive.specs.Whole.{IsDecodingOf}
use Rattle.bitcode_derive.proofs.RoundTripLemmas.{read_equal, refused_for_memory}
use Rattle.bitcode_sealed.specs.Layout.{sealed}
use Rattle.bitcode_sealed.proofs.AgainLemmas.{only_value}
use Rattle.bitcode_sealed.proofs.NoFaultLemmas.{LabelFits}
use Rattle.bitcode_sealed.proofs.OpeningLemmas.{only_for_memory}
use Rattle.bitcode_sealed.proofs.laws.comes_back.Goals as goal

pub returns-in-Ok-clause-equal : goal.returns-in-Ok-clause-equal
returns-in-Ok-clause-equal g c =
    let bytes = c.args.bytes.now in
    let below : length bytes < 256 ^ 8 = omega arith in
    rw c.in-Ok.is (λ sealing short opening.
    let same : opening.value ≡ sealing.encoding =
    only_value c.args.label c.args.expected.now.label sealing.encoding opening.value [] bytes below sealing.whole opening.front.whole in
    read_equal g.T.Shaped.data.lawful g.T.Shaped.data.makeable c.args.t.now c.in-Ok.u sealing.encoding c.told.ensures c.told-in-Ok.ensures sealing.written
    (short sealing.written.datum sealing.written.listing) (subst (λ b. IsDecodingOf g.T.Shaped.data.makes g.T.Shaped.data.shape b c.in-Ok.u) same opening.decoded))

pub returns-in_default-clause-refused : goal.returns-in_default-clause-refused
returns-in_default-clause-refused g c =
    let bytes = c.args.bytes.now in
    let label = c.args.label in
    let below : length bytes < 256 ^ 8 = omega arith in
    let fits : LabelFits label = record { kind = omega arith; version = omega arith } in
    rw c.in_default.is (λ sealing short same room refusal.
    only_for_memory c.args.expected.now (subst LabelFits (sym same) fits) sealing.encoding bytes below (subst (λ l. bytes ≡ sealed l sealing.encoding) (sym same) sealing.whole)
    room g.T.Decoder.Decoder.makes_free g.T.Decoder.HoldsData.shape g.T.Shaped.data.shape c.in_default.field-0
    (λ reason none. refused_for_memory g.T.Shaped.data.lawful c.args.t.now sealing.encoding c.told.ensures sealing.written short reason none) refusal)
