-- Steps into lists and variants.
use Rattle.std.proofs.Common.{◌≡◌, ℕ, zero, suc, ◌≤◌, ◌<◌, Bool, true, false, ◌&&◌, refl, arith}
use Rattle.bitcode_memory.specs.declared.error.Reason.{Reason}
use Rattle.bitcode_coder.specs.Spelling.{natural}
use Rattle.bitcode_untyped.specs.Bounds.{column_free, free_limit}
use Rattle.bitcode_untyped.specs.Population.{total}
use Rattle.bitcode_untyped.specs.ShapeTree.{ShapeTree, ShapeTrees, no_trees, tree_and, never_tree, seq_tree, tree_at}
use Rattle.bitcode_untyped.specs.Walk.{length_kind}
use Rattle.bitcode_untyped.proofs.ReadLemmas.{seq_over_limit}
use Rattle.bitcode_serde.specs.Places.{places, place_at}
use Rattle.bitcode_serde.specs.Reading.{LeadsTelling}
use Rattle.bitcode_serde.specs.declared.reader.Reader.{Reader}
use Rattle.bitcode_serde.proofs.ValueLemmas.{told_at}
use Rattle.bitcode_serde_types.specs.FieldsWritten.{tree_count}
use Rattle.bitcode_serde_types.specs.Refusals.{IsReasonOf, IsRefusalAt}

-- there is no variant of an index past the last one
pub tree_at_past : (ss : ShapeTrees) (i : ℕ) → tree_count ss ≤ i → tree_at ss i ≡ never_tree
tree_at_past no_trees i h = refl
tree_at_past (tree_and s ss) zero h = absurd (omega (arith, h))
tree_at_past (tree_and s ss) (suc i) h = tree_at_past ss i (omega (arith, h))

-- a list of too many elements without a column
pub over_limit_refused : (s : ShapeTree) (place n count : ℕ) (old new : Reader) (why : Reason) → column_free s ≡ true → free_limit < n → IsReasonOf (seq_tree s) why
    → LeadsTelling old (place_at (places old.places.below.items) place) length_kind (natural n) new (λ entries. count ≡ total entries)
    → IsRefusalAt (seq_tree s) place old why
over_limit_refused s place n count old new why free many known leads = (
  known,
  λ other p at a st.
      let l = told_at old new place length_kind (natural n) (λ entries. count ≡ total entries) leads p at a st in
      seq_over_limit s p a n l.0 l.2.takes free many,
)

-- ---- tuples of which a field has columns

pub columns_first : (a b : Bool) → false ≡ a → false ≡ a && b
columns_first true b h = absurd (cc h)
columns_first false b h = refl

pub columns_behind : (a b : Bool) → false ≡ b → false ≡ a && b
columns_behind true b h = h
columns_behind false b h = refl
