-- What is left of a budget of nodes, and what is kept of what is read under it.
use Rattle.std.specs.Prelude.{◌≡◌, ℕ, zero, suc, List, map}
use Rattle.bitcode_shapes.specs.Datum.{Datum, data_of}
use Rattle.bitcode_untyped.specs.Nodes.{node_count, node_counts}
use Rattle.bitcode_serde.specs.declared.budget.Budget.{Budget}
use Rattle.bitcode_serde.specs.declared.budget.Budget.TheVariants.{Endless, Nodes, Spent}

-- one node is taken
abbrev pub spend_one : Budget → Budget
spend_one Endless = Endless
spend_one (Nodes zero) = Spent
spend_one (Nodes (suc left)) = Nodes left
spend_one Spent = Spent

-- so many are taken, one after another
abbrev pub spend : ℕ → Budget → Budget
spend zero b = b
spend (suc n) b = spend n (spend_one b)

-- there were no more nodes than it had, so all that was read is kept
abbrev pub IsLeft : Budget → Type 0
IsLeft Spent = ⊥
IsLeft _ = Unit {0}

-- A datum is read and its nodes are taken from the budget. Unless that is spent, the datum is what is kept.
pub record Keeps {A : Type 0} (content : A → Datum) (Reads : Datum → Type 0) (before : Budget) (kept : A) (after : Budget) : Type 0 where
  pub datum : Datum
  pub read : Reads datum
  pub taken : after ≡ spend (node_count datum) before
  pub same : IsLeft after → content kept ≡ datum

-- The same of several data.
pub record KeepsEach {A : Type 0} (content : A → Datum) (Reads : List Datum → Type 0) (before : Budget) (kept : List A) (after : Budget) : Type 0 where
  pub listing : List Datum
  pub read : Reads listing
  pub taken : after ≡ spend (node_counts (data_of listing)) before
  pub same : IsLeft after → map content kept ≡ listing
