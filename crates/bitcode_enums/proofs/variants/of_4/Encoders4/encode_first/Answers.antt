-- Written by scripts/tables/variants.
-- What is written of the payload is written of the value, at its place among the variants.
use Rattle.std.proofs.Common.{[], ◌∷◌, arith}
use Rattle.std.proofs.lemmas.Result.{on_ok_weaker}
use Rattle.bitcode_memory.specs.declared.error.Error.{Error}
use Rattle.bitcode_coder.proofs.RefusalLemmas.{refused_weaker}
use Rattle.bitcode_enums.proofs.VariantLemmas.{joins_of, overflows_of}
use Rattle.bitcode_enums.proofs.variants.of_4.Encoders4.encode_first.Goals as goal

pub returns-clause-joined : goal.returns-clause-joined
returns-clause-joined g c =
    on_ok_weaker c.encode_payload_fields.result (joins_of g.T.Enum.each.variants g.met.T.Variants4.are.0 c.requires g.First.VariantNumber.value 0 (omega arith)
    (g.E1.HoldsColumns.columns c.args.self.now.first ∷ g.E2.HoldsColumns.columns c.args.self.now.second ∷ g.E3.HoldsColumns.columns c.args.self.now.third ∷ g.E4.HoldsColumns.columns c.args.self.now.fourth ∷ [])
    (g.E1.HoldsColumns.columns c.encode_payload_fields.new.columns ∷ g.E2.HoldsColumns.columns c.args.self.now.second ∷ g.E3.HoldsColumns.columns c.args.self.now.third ∷ g.E4.HoldsColumns.columns c.args.self.now.fourth ∷ []))
    c.encode_payload_fields.ensures.joined

pub returns-clause-refused : goal.returns-clause-refused
returns-clause-refused g c =
    refused_weaker (λ (e : Error). e.reason) c.encode_payload_fields.result (overflows_of g.T.Enum.each.variants g.met.T.Variants4.are.0 c.requires g.First.VariantNumber.value 0 (omega arith)
    (g.E1.HoldsColumns.columns c.args.self.now.first ∷ g.E2.HoldsColumns.columns c.args.self.now.second ∷ g.E3.HoldsColumns.columns c.args.self.now.third ∷ g.E4.HoldsColumns.columns c.args.self.now.fourth ∷ []))
    c.encode_payload_fields.ensures.refused
