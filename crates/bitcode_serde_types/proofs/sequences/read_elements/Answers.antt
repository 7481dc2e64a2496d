-- One element after another.
use Rattle.std.proofs.Common.{rules, arith, ◌≡◌, ◌<◌, ◌+◌, ◌-◌, true, sym, subst, ◌∙◌}
use Rattle.std.proofs.lemmas.Result.{err_from_is_err_and}
use Rattle.bitcode_untyped.specs.Bounds.{column_free}
use Rattle.bitcode_untyped.specs.Nodes.{node_count}
use Rattle.bitcode_serde.specs.Budget.{IsLeft}
use Rattle.bitcode_serde.specs.declared.budget.Budget.TheVariants.{Spent}
use Rattle.bitcode_serde.proofs.BudgetLemmas.{left_before}
use Rattle.bitcode_serde.proofs.ColumnLemmas.{passed_on}
use Rattle.bitcode_serde_types.specs.ReadingAs.{ReadsEachAs}
use Rattle.bitcode_serde_types.specs.Refusals.{IsListRefusalAt}
use Rattle.bitcode_serde_types.proofs.KeptLemmas.{rest_kept, elements_more, element_refused, elements_there, one_longer}
use Rattle.bitcode_serde_types.proofs.sequences.read_elements.Goals as goal

pub read-requires : goal.read-requires
read-requires g c =
    let l = c.loop-i in
    let h = elements_there g.T.HasShape.datum (g.T.HasShape.tree c.args.left) c.args.list.place c.args.reader.now l.reader c.args.budget.now l.budget l._i
    l.values.items l.invariant.0 c.requires.place in
    let s = l.invariant.0.0.steady in
    search (rules, h, s)

pub returns-in_err-value-clause-refused : goal.returns-in_err-value-clause-refused
returns-in_err-value-clause-refused g c =
    let s = g.T.HasShape.tree c.args.left in
    let l = c.loop-i in
    let y = err_from_is_err_and c.from_residual-in_err-value.result c.from_residual-in_err-value.ensures.1 in
    let lt : l._i < c.args.list.count = omega arith in
    passed_on (λ e. IsListRefusalAt s c.args.list.place c.args.reader.now c.args.list.count e.reason) c.from_residual-in_err-value.result c.in_err-value.field-0.0 y.0 y.1 y.2
    (element_refused g.T.HasShape.datum s c.args.list.place c.args.reader.now l.reader c.args.budget.now l.budget l._i l.values.items l.invariant.0
    c.args.list.count _ lt c.in_err-value.ensures.refused)

pub loop-i-preserved : goal.loop-i-preserved
loop-i-preserved g c =
    let l = c.loop-i in
    let one = c.in_ok-value.ensures.read in (
      elements_more g.T.HasShape.datum (g.T.HasShape.tree c.args.left) c.args.list.place c.args.reader.now l.reader c.args.budget.now l.budget l._i
          l.values.items l.invariant.0 c.read.new.reader c.read.new.budget c.keep.new.items.items c.in_ok-value.value c.in_ok-value.ensures.continues one
          c.in_ok-keep.ensures.kept,
      λ left.
          one_longer l.values.items c.keep.new.items.items c.in_ok-value.value l._i
          (l.invariant.1 (left_before (node_count one.datum) l.budget (subst IsLeft one.taken left))) (c.in_ok-keep.ensures.kept left),
    )

pub returns-clause-read : goal.returns-clause-read
returns-clause-read g c =
    let l = c.loop-i in
    let e : l._i ≡ c.args.list.count = omega arith in
    subst (λ n. ReadsEachAs g.T.HasShape.datum (g.T.HasShape.tree c.args.left) c.args.list.place c.args.reader.now c.args.budget.now n l.values.items
    l.reader l.budget) e l.invariant.0.1

pub returns-clause-all : goal.returns-clause-all
returns-clause-all g c =
    let l = c.loop-i in
    let e : l._i ≡ c.args.list.count = omega arith in
    λ left. l.invariant.1 left ∙ e

pub returns-then-is_free-clause-all : goal.returns-then-is_free-clause-all
returns-then-is_free-clause-all g c = λ left. absurd (subst IsLeft c.if-is_spent.ensures left)

pub returns-then-is_free-clause-read : goal.returns-then-is_free-clause-read
returns-then-is_free-clause-read g c =
    let datum = g.T.HasShape.datum in
    let s = g.T.HasShape.tree c.args.left in
    let l = c.loop-i in
    let place = c.args.list.place in
    let old = c.args.reader.now in
    let gone : l.budget ≡ Spent = c.if-is_spent.ensures in
    let free : column_free s ≡ true = sym (c.if-is_free.ensures c.args.left) in
    let all : l._i + (c.args.list.count - l._i) ≡ c.args.list.count = omega arith in
    let so_far = subst (ReadsEachAs datum s place old c.args.budget.now l._i l.values.items l.reader) gone l.invariant.0.1 in
    let rest = rest_kept datum s place old l.reader c.args.budget.now l.values.items (c.args.list.count - l._i) l._i l.invariant.0.0
    (g.T.HasShape.sound c.args.left) free so_far in
    subst (ReadsEachAs datum s place old c.args.budget.now c.args.list.count l.values.items l.reader) (sym gone)
    (subst (λ n. ReadsEachAs datum s place old c.args.budget.now n l.values.items l.reader Spent) all rest)
