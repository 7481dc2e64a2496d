-- One column more stands behind the others.
use Rattle.std.proofs.Common.{◌≡◌, ℕ, ◌+◌, arith, true, List, [], ◌∷◌, ◌++◌, sym}
use Rattle.std.proofs.lemmas.Bool.{eq-eqb, eqb-true, and_from, and_parts}
use Rattle.bitcode_command.specs.Placing.{stand_from}
use Rattle.bitcode_command.specs.declared.column.Column.{Column}

pub stand_next : (from : ℕ) (columns : List Column) (column : Column) (end : ℕ) → stand_from from columns column.offset ≡ true → column.offset + column.extent.size ≡ end
    → stand_from from (columns ++ column ∷ []) end ≡ true
stand_next from [] column end h size =
    let here : from ≡ column.offset = eqb-true from column.offset h in
    and_from _ _ (eq-eqb column.offset from (sym here)) (eq-eqb (from + column.extent.size) end (omega (arith, here, size)))
stand_next from (c ∷ cs) column end h size =
    let both = and_parts _ _ h in
    and_from _ _ both.0 (stand_next (from + c.extent.size) cs column end both.1 size)
