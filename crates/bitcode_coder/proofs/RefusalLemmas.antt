-- What a part of a value refuses, the whole value refuses.
use Rattle.std.proofs.Common.{[], ◌∷◌, refl, inl, inr}
use Rattle.std.proofs.lemmas.List.Elements.{All-cons, All-nil}
use Rattle.std.specs.Prelude.{Result, Ok, Err, IfErr}
use Rattle.bitcode_memory.specs.declared.error.Reason.{Reason}
use Rattle.bitcode_shapes.specs.Datum.{Datum}
use Rattle.bitcode_shapes.specs.Shape.{Shape, IsOf}
use Rattle.bitcode_coder.specs.Columns.{Columns}
use Rattle.bitcode_coder.specs.Coder.{IsWritingRefusal, OverflowsWithListing, SurelyOverflows}

pub refusal_weaker : {Overflows Others : Type 0} (reason : Reason) → (Overflows → Others) → IsWritingRefusal reason Overflows → IsWritingRefusal reason Others
refusal_weaker reason f (inl h) = inl h
refusal_weaker reason f (inr h) = inr (h.0, f h.1)

pub refused_weaker : {T E Overflows Others : Type 0} (reason : E → Reason) (result : Result T E) → (Overflows → Others)
    → IfErr result (λ e. IsWritingRefusal (reason e) Overflows) → IfErr result (λ e. IsWritingRefusal (reason e) Others)
refused_weaker reason (Ok x) f h = tt
refused_weaker reason (Err e) f h = refusal_weaker (reason e) f h

-- what refuses any value refuses this one
pub surely_listing : {T : Type 0} (lists : T → Datum → Type 0) (shape : Shape) (t : T) (old : Columns) (d : Datum) → lists t d → IsOf shape d
    → SurelyOverflows shape old 1 → OverflowsWithListing lists shape t old
surely_listing lists shape t old d listing of_shape surely = record {
  datum = d;
  listing = listing;
  overflows = surely (d ∷ []) (All-cons (IsOf shape) d [] of_shape (All-nil (IsOf shape))) refl;
}
