-- The bytes were sealed under one label, and are opened as those of its version.
use Rattle.std.proofs.Common.{◌<◌, ◌^◌, length, arith}
use Rattle.std.proofs.lemmas.Result.{IfOk-weaker, IfErr-weaker}
use Rattle.bitcode_sealed.specs.Versions.{IsOpeningOfAny, IsRefusalOfAny}
use Rattle.bitcode_sealed.specs.ErrorClasses.{IsOutOfMemory}
use Rattle.bitcode_sealed.proofs.NoFaultLemmas.{LabelFits}
use Rattle.bitcode_sealed.proofs.VersionLemmas.{upgraded_any, memory_any}
use Rattle.bitcode_sealed.proofs.version_laws.earlier_comes_back.Goals as goal

pub returns-clause-upgraded : goal.returns-clause-upgraded
returns-clause-upgraded g c =
    let bytes = c.args.bytes.now in
    let expected = c.args.expected.now in
    let below : length bytes < 256 ^ 8 = omega arith in
    let fits : LabelFits c.args.label = record { kind = omega arith; version = omega arith } in
    let expected_fits : LabelFits expected.label = record { kind = omega arith; version = omega arith } in
    let of_before = g.V.Before.Shaped.data in
    λ version named sealing short.
    IfOk-weaker c.args.again.now (λ t. IsOpeningOfAny g.T.Shaped.data.makes g.T.Shaped.data.shape g.T.Versions.ReadsVersions.includes g.T.Versions.ReadsVersions.opens expected bytes t)
    (λ t. (b : _) × (of_before.same c.args.before.now b × g.V.OneVersion.is_upgrade b t))
    (upgraded_any of_before.lawful of_before.makeable g.V.OneVersion.version c.args.label expected fits version g.T.Versions.ReadsVersions.includes named c.args.before.now c.told.ensures bytes below sealing short
    g.V.OneVersion.is_upgrade g.T.Shaped.data.makes g.T.Shaped.data.shape g.T.Versions.ReadsVersions.opens c.requires.opens expected_fits)

pub returns-clause-refused : goal.returns-clause-refused
returns-clause-refused g c =
    let bytes = c.args.bytes.now in
    let expected = c.args.expected.now in
    let below : length bytes < 256 ^ 8 = omega arith in
    let fits : LabelFits c.args.label = record { kind = omega arith; version = omega arith } in
    let of_before = g.V.Before.Shaped.data in
    λ free own version named sealing short room.
    IfErr-weaker c.args.again.now
    (λ e. IsRefusalOfAny free own g.T.Shaped.data.shape g.T.Versions.ReadsVersions.includes g.T.Versions.ReadsVersions.refuses expected bytes e) (λ e. IsOutOfMemory e)
    (memory_any of_before.lawful of_before.makeable g.V.OneVersion.version c.args.label expected fits version g.T.Versions.ReadsVersions.includes named c.args.before.now c.told.ensures bytes below sealing short
    free own g.T.Shaped.data.shape g.T.Versions.ReadsVersions.refuses c.requires.refuses room)
