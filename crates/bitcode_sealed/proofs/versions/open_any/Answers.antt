-- The version that the head names is opened, or refused.
use Rattle.std.proofs.Common.{sym, ◌∙◌}
use Rattle.std.proofs.lemmas.Result.{IfErr-weaker, IfOk-weaker}
use Rattle.bitcode_sealed.specs.Opening.{IsRefusal}
use Rattle.bitcode_sealed.specs.Versions.{IsOpeningOfAny, opens_earlier, IsRefusalOfAny, newest_refused, earlier_refused, under}
use Rattle.bitcode_sealed.proofs.versions.open_any.Goals as goal

pub returns-then-is_earlier-clause-found : goal.returns-then-is_earlier-clause-found
returns-then-is_earlier-clause-found g c =
    IfOk-weaker c.open_earlier.result (λ t. g.T.Versions.ReadsVersions.opens (under c.in_ok-label.label c.args.expected.now) c.args.bytes.now t)
    (λ t. IsOpeningOfAny g.T.Shaped.data.makes g.T.Shaped.data.shape g.T.Versions.ReadsVersions.includes g.T.Versions.ReadsVersions.opens c.args.expected.now c.args.bytes.now t)
    (λ t opened. opens_earlier c.in_ok-label.label c.in_ok-label.ensures.found (sym c.names_earlier-is_earlier.ensures ∙ c.if-is_earlier.true) opened) c.open_earlier.ensures.found

pub returns-then-is_earlier-clause-refused : goal.returns-then-is_earlier-clause-refused
returns-then-is_earlier-clause-refused g c =
    IfErr-weaker c.open_earlier.result (λ e. g.T.Versions.ReadsVersions.refuses (under c.in_ok-label.label c.args.expected.now) c.args.bytes.now e)
    (λ e. IsRefusalOfAny g.T.Decoder.Decoder.makes_free g.T.Decoder.HoldsData.shape g.T.Shaped.data.shape g.T.Versions.ReadsVersions.includes g.T.Versions.ReadsVersions.refuses c.args.expected.now c.args.bytes.now e)
    (λ e refused. earlier_refused c.in_ok-label.label c.in_ok-label.ensures.found (sym c.names_earlier-is_earlier.ensures ∙ c.if-is_earlier.true) refused) c.open_earlier.ensures.refused

pub returns-clause-refused : goal.returns-clause-refused
returns-clause-refused g c =
    IfErr-weaker c.open.result (λ e. IsRefusal g.T.Decoder.Decoder.makes_free g.T.Decoder.HoldsData.shape g.T.Shaped.data.shape c.args.expected.now c.args.bytes.now e)
    (λ e. IsRefusalOfAny g.T.Decoder.Decoder.makes_free g.T.Decoder.HoldsData.shape g.T.Shaped.data.shape g.T.Versions.ReadsVersions.includes g.T.Versions.ReadsVersions.refuses c.args.expected.now c.args.bytes.now e)
    (λ e refused. newest_refused c.in_ok-label.label c.in_ok-label.ensures.found (sym c.names_earlier-is_earlier.ensures ∙ c.if-is_earlier.false) refused) c.open.ensures.refused
