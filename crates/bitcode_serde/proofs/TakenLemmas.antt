-- Values that hold what was taken of a column.
use Rattle.std.proofs.Common.{◌≡◌, ℕ, List, [], ◌∷◌, map, refl, ap, sym, ◌∙◌}
use Rattle.std.specs.List.{AllByRecursion, AllZip}
use Rattle.bitcode_shapes.specs.Datum.{Datum}
use Rattle.bitcode_coder.specs.Spelling.{natural}
use Rattle.bitcode_untyped.specs.View.{datum_of}
use Rattle.bitcode_untyped.specs.declared.value.Value.{Value}
use Rattle.bitcode_untyped.specs.declared.value.Value.TheOpen.{Value-F}
use Rattle.bitcode_untyped.specs.declared.value.Value.TheVariants as value
use Rattle.bitcode_untyped.proofs.LeafLemmas.{leaf_datum, rolled_entry}
use Rattle.bitcode_serde.specs.ReadColumns.{IsCaseOf}
use Rattle.bitcode_serde.specs.declared.column.ColumnKind.{ColumnKind}

pub data_made : {T : Type 0} (holder : T → Value) (makes : Datum → T → Type 0) → ((t : T) (d : Datum) → makes d t → d ≡ datum_of (holder t))
    → (ds : List Datum) (ts : List T) → AllZip makes ds ts → ds ≡ map datum_of (map holder ts)
data_made holder makes made [] [] h = refl
data_made holder makes made [] (t ∷ ts) h = absurd h
data_made holder makes made (d ∷ ds) [] h = absurd h
data_made holder makes made (d ∷ ds) (t ∷ ts) h =
    ap (λ e. e ∷ ds) (made t d h.0) ∙ ap (λ es. datum_of (holder t) ∷ es) (data_made holder makes made ds ts h.1)

pub cases_held : {T : Type 0} (kind : ColumnKind) (holder : T → Value) → ((t : T) → IsCaseOf kind (holder t)) → (ts : List T)
    → AllByRecursion (IsCaseOf kind) (map holder ts)
cases_held kind holder case [] = tt
cases_held kind holder case (t ∷ ts) = (case t, cases_held kind holder case ts)

-- the bytes of a column, as values
pub bytes_held : (bytes : List ℕ) → map natural bytes ≡ map datum_of (map (λ n. value.U8 n) bytes)
bytes_held [] = refl
bytes_held (n ∷ bytes) = ap (λ d. d ∷ map natural bytes) (sym (leaf_datum (value.U8 n) _ (rolled_entry (Value-F.U8 n) (value.U8 n) (value.rolls-U8 n)))) ∙ ap (λ ds. datum_of (value.U8 n) ∷ ds) (bytes_held bytes)
