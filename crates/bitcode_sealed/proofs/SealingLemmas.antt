-- What is sealed behind nothing.
use Rattle.std.proofs.Common.{◌≡◌, ℕ, List, [], ◌++◌, refl, ap, ◌∙◌, subst, sym}
use Rattle.bitcode_shapes.specs.Datum.{Datum}
use Rattle.bitcode_shapes.specs.Shape.{Shape}
use Rattle.bitcode_derive.specs.Whole.{IsEncodingOf}
use Rattle.bitcode_sealed.specs.declared.label.Label.{Label}
use Rattle.bitcode_sealed.specs.Layout.{sealed}
use Rattle.bitcode_sealed.specs.Sealing.{IsSealingOf, IsSealedBehind}

module _ {T : Type 0} (lists : T → Datum → Type 0) (shape : Shape) (label : Label) (t : T) where
  pub sealed_alone : (before after : List ℕ) → before ≡ [] → IsSealedBehind lists shape label t before after → IsSealingOf lists shape label t after
  sealed_alone before after none s = subst (IsSealingOf lists shape label t) (sym (s.behind ∙ ap (λ b. b ++ s.sealing) none)) s.is

  pub sealed_behind_it : (before encoding after : List ℕ) → IsEncodingOf lists shape t encoding → after ≡ before ++ sealed label encoding
      → IsSealedBehind lists shape label t before after
  sealed_behind_it before encoding after written behind =
      record { sealing = sealed label encoding; behind = behind; is = record { encoding = encoding; whole = refl; written = written } }
