-- A value of another case than its node, which is no leaf, has one fault.
use Rattle.std.proofs.Common.{◌≡◌, ℕ, List, [], ◌∷◌, Option, Some, None, Vec, Box, Global, refl, sym, ◌∙◌, ap}
use Rattle.bitcode_memory.specs.declared.error.Reason.TheVariants.{NotOfTheShape}
use Rattle.bitcode_untyped.specs.Faults.{stands, Judge, faults_of, faults_at}
use Rattle.bitcode_untyped.specs.declared.shape.ShapeNode.{ShapeNode}
use Rattle.bitcode_untyped.specs.declared.shape.ShapeNode.TheOpen.{ShapeNode-F}
use Rattle.bitcode_untyped.specs.declared.shape.ShapeNode.TheVariants as node
use Rattle.bitcode_untyped.specs.declared.value.Value.{Value, out-Value}
use Rattle.bitcode_untyped.specs.declared.value.Value.TheOpen.{Value-F}
use Rattle.bitcode_untyped.specs.declared.value.Value.TheViews.{roll-Value, roll-out-Value}
use Rattle.bitcode_untyped.specs.declared.value.Value.TheFolds.{map-Value}
use Rattle.bitcode_untyped.specs.declared.value.Value.TheVariants as value
use Rattle.bitcode_untyped.proofs.FollowLemmas.{follow-Unit, follow-Bytes, follow-Option, follow-Seq, follow-Map, follow-Tuple, follow-Enum}
use Rattle.bitcode_untyped.proofs.FaultLemmas.{judged, faults_at-follow}

module _ (table : List ShapeNode) (v : Value) (left : ℕ) where
  abbrev seen_as : Value-F Value → Value-F Judge
  seen_as = map-Value Value Judge (faults_of table)

  pub other-Unit : (v ≡ value.Unit → ⊥) → faults_of table v left node.Unit ≡ NotOfTheShape ∷ []
  other-Unit h =
      faults_at-follow table v left node.Unit ∙ ap (faults_at (judged table v)) (follow-Unit table left) ∙ by (out-Value v) (sym (roll-out-Value v))
    where
      by : (w : Value-F Value) → v ≡ roll-Value w → faults_at (seen_as w) (stands left ShapeNode-F.Unit) ≡ NotOfTheShape ∷ []
      by Value-F.Unit e = absurd (h (e ∙ value.rolls-Unit))
      by (Value-F.Option None) e = refl
      by (Value-F.Option (Some w)) e = refl
      by _ e = refl

  pub other-Bytes : ((b : Vec ℕ Global) → v ≡ (value.Bytes b) → ⊥) → faults_of table v left node.Bytes ≡ NotOfTheShape ∷ []
  other-Bytes h =
      faults_at-follow table v left node.Bytes ∙ ap (faults_at (judged table v)) (follow-Bytes table left) ∙ by (out-Value v) (sym (roll-out-Value v))
    where
      by : (w : Value-F Value) → v ≡ roll-Value w → faults_at (seen_as w) (stands left ShapeNode-F.Bytes) ≡ NotOfTheShape ∷ []
      by (Value-F.Bytes b) e = absurd (h b (e ∙ value.rolls-Bytes b))
      by (Value-F.Option None) e = refl
      by (Value-F.Option (Some w)) e = refl
      by _ e = refl

  pub other-Option : (b : Box ShapeNode Global) → ((o : Option (Box Value Global)) → v ≡ (value.Option o) → ⊥)
      → faults_of table v left (node.Option b) ≡ NotOfTheShape ∷ []
  other-Option b h =
      faults_at-follow table v left (node.Option b) ∙ ap (faults_at (judged table v)) (follow-Option table left b) ∙ by (out-Value v) (sym (roll-out-Value v))
    where
      by : (w : Value-F Value) → v ≡ roll-Value w → faults_at (seen_as w) (stands left (ShapeNode-F.Option b)) ≡ NotOfTheShape ∷ []
      by (Value-F.Option o) e = absurd (h o (e ∙ value.rolls-Option o))
      by _ e = refl

  pub other-Seq : (b : Box ShapeNode Global) → ((vs : Vec Value Global) → v ≡ (value.Seq vs) → ⊥) → faults_of table v left (node.Seq b) ≡ NotOfTheShape ∷ []
  other-Seq b h =
      faults_at-follow table v left (node.Seq b) ∙ ap (faults_at (judged table v)) (follow-Seq table left b) ∙ by (out-Value v) (sym (roll-out-Value v))
    where
      by : (w : Value-F Value) → v ≡ roll-Value w → faults_at (seen_as w) (stands left (ShapeNode-F.Seq b)) ≡ NotOfTheShape ∷ []
      by (Value-F.Seq vs) e = absurd (h vs (e ∙ value.rolls-Seq vs))
      by (Value-F.Option None) e = refl
      by (Value-F.Option (Some w)) e = refl
      by _ e = refl

  pub other-Map : (k : Box ShapeNode Global) (s : Box ShapeNode Global) → ((es : Vec (Value × Value) Global) → v ≡ (value.Map es) → ⊥)
      → faults_of table v left (node.Map k s) ≡ NotOfTheShape ∷ []
  other-Map k s h =
      faults_at-follow table v left (node.Map k s) ∙ ap (faults_at (judged table v)) (follow-Map table left k s) ∙ by (out-Value v) (sym (roll-out-Value v))
    where
      by : (w : Value-F Value) → v ≡ roll-Value w → faults_at (seen_as w) (stands left (ShapeNode-F.Map k s)) ≡ NotOfTheShape ∷ []
      by (Value-F.Map es) e = absurd (h es (e ∙ value.rolls-Map es))
      by (Value-F.Option None) e = refl
      by (Value-F.Option (Some w)) e = refl
      by _ e = refl

  pub other-Tuple : (ns : Vec ShapeNode Global) → ((vs : Vec Value Global) → v ≡ (value.Tuple vs) → ⊥)
      → faults_of table v left (node.Tuple ns) ≡ NotOfTheShape ∷ []
  other-Tuple ns h =
      faults_at-follow table v left (node.Tuple ns) ∙ ap (faults_at (judged table v)) (follow-Tuple table left ns) ∙ by (out-Value v) (sym (roll-out-Value v))
    where
      by : (w : Value-F Value) → v ≡ roll-Value w → faults_at (seen_as w) (stands left (ShapeNode-F.Tuple ns)) ≡ NotOfTheShape ∷ []
      by (Value-F.Tuple vs) e = absurd (h vs (e ∙ value.rolls-Tuple vs))
      by (Value-F.Option None) e = refl
      by (Value-F.Option (Some w)) e = refl
      by _ e = refl

  pub other-Enum : (ns : Vec ShapeNode Global) → ((i : ℕ) (w : Box Value Global) → v ≡ (value.Enum i w) → ⊥)
      → faults_of table v left (node.Enum ns) ≡ NotOfTheShape ∷ []
  other-Enum ns h =
      faults_at-follow table v left (node.Enum ns) ∙ ap (faults_at (judged table v)) (follow-Enum table left ns) ∙ by (out-Value v) (sym (roll-out-Value v))
    where
      by : (w : Value-F Value) → v ≡ roll-Value w → faults_at (seen_as w) (stands left (ShapeNode-F.Enum ns)) ≡ NotOfTheShape ∷ []
      by (Value-F.Enum i w) e = absurd (h i w (e ∙ value.rolls-Enum i w))
      by (Value-F.Option None) e = refl
      by (Value-F.Option (Some w)) e = refl
      by _ e = refl
