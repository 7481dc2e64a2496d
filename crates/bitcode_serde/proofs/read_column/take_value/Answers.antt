-- The datum that was taken is that of the value that holds what it made.
use Rattle.std.proofs.Common.{◌∷◌, ap, sym, subst, ◌∙◌}
use Rattle.bitcode_untyped.specs.View.{datum_of}
use Rattle.bitcode_serde.specs.ReadColumns.{IsCaseOf}
use Rattle.bitcode_serde.proofs.read_column.take_value.Goals as goal

pub returns-clause-taken : goal.returns-clause-taken
returns-clause-taken g c =
    let t = c.in_ok-item.ensures.made in
    t.taken ∙ ap (λ d. d ∷ g.D.HoldsData.held c.decode.new.self) (g.met.T.Case.laws.made c.in_ok-item.item t.datum t.made ∙ ap datum_of (sym c.into_value.ensures))

pub returns-clause-of_case : goal.returns-clause-of_case
returns-clause-of_case g c = subst (IsCaseOf g.T.Case.kind) (sym c.into_value.ensures) (g.met.T.Case.laws.of_case c.in_ok-item.item)
