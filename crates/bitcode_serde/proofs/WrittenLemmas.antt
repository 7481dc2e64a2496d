-- Which entries a column takes.
use Rattle.std.proofs.Common.{◌≡◌, ◌⊎◌, inl, inr, List, [], ◌∷◌, ◌++◌, ap, sym, subst, ◌∙◌}
use Rattle.std.specs.Prelude.{Result, Ok, Err, IfErr}
use Rattle.bitcode_memory.specs.declared.error.Error.{Error}
use Rattle.bitcode_memory.specs.declared.error.Reason.TheVariants.{OutOfMemory}
use Rattle.bitcode_shapes.specs.Datum.{Datum}
use Rattle.bitcode_shapes.specs.Shape.{Shape}
use Rattle.bitcode_coder.specs.Coder.{written_columns, JoinsListing, OverflowsWithListing}
use Rattle.bitcode_coder.specs.Columns.{Kind, one, beside, CountsFit}
use Rattle.bitcode_coder.proofs.OneValueLemmas.{entries_in}

pub if_err : {A : Type 0} (P Q : Error → Type 0) (r : Result A Error) → ((e : Error) → P e → Q e) → IfErr r P → IfErr r Q
if_err P Q (Ok a) f h = tt
if_err P Q (Err e) f h = f e h

-- a column that has no numbers of arrays refuses for want of memory alone
pub only_memory : {T : Type 0} (lists : T → Datum → Type 0) (shape : Shape) (kind : Kind) (t : T) (entries : List Datum) (Other : Type 0) (e : Error)
    → ((ds : List Datum) → written_columns shape ds ≡ one kind ds)
    → (e.reason ≡ OutOfMemory) ⊎ (⊥ ⊎ OverflowsWithListing lists shape t (one kind entries)) → (e.reason ≡ OutOfMemory) ⊎ Other
only_memory lists shape kind t entries Other e columns (inl m) = inl m
only_memory lists shape kind t entries Other e columns (inr (inl never)) = absurd never
only_memory lists shape kind t entries Other e columns (inr (inr p)) =
    absurd (p.overflows (subst (λ added. CountsFit (beside (one kind entries) added)) (sym (columns (p.datum ∷ []))) tt))

-- the one datum that a value lists was written behind the others
pub joined_entry : {T : Type 0} (lists : T → Datum → Type 0) (shape : Shape) (kind : Kind) (t : T) (old new : List Datum) (datum : Datum)
    → ((ds : List Datum) → written_columns shape ds ≡ one kind ds)
    → ((d : Datum) → lists t d → d ≡ datum)
    → JoinsListing lists shape t (one kind old) (one kind new) → new ≡ old ++ datum ∷ []
joined_entry lists shape kind t old new datum columns only p =
    ap entries_in (p.joined ∙ ap (beside (one kind old)) (columns (p.datum ∷ []))) ∙ ap (λ d. old ++ d ∷ []) (only p.datum p.listing)
