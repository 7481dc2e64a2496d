-- By what was left.
use Rattle.std.proofs.Common.{arith, sym}
use Rattle.bitcode_serde.proofs.BudgetLemmas.{spend-Endless, spend-within, spend-over, spend-Spent}
use Rattle.bitcode_serde.proofs.budget.Budget.take.Goals as goal

pub returns-in-Endless : goal.returns-in-Endless
returns-in-Endless c = rw (c.in-Endless.is, spend-Endless c.args.count)

pub returns-in-Nodes : goal.returns-in-Nodes
returns-in-Nodes c = rw c.in-Nodes.is (sym (spend-within c.args.count c.in-Nodes.left (omega arith)))

pub returns-in-Nodes-2 : goal.returns-in-Nodes-2
returns-in-Nodes-2 c = rw c.in-Nodes.is (sym (spend-over c.args.count c.in-Nodes.left (omega arith)))

pub returns-in-Spent : goal.returns-in-Spent
returns-in-Spent c = rw (c.in-Spent.is, spend-Spent c.args.count)
