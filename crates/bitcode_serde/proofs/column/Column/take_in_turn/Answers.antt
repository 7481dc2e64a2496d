-- One more entry was taken.
use Rattle.std.proofs.Common.{◌≡◌, ◌+◌, [], ◌∷◌, length, length-append, ap, sym, subst, ◌∙◌}
use Rattle.std.specs.List.{AllByRecursion}
use Rattle.bitcode_untyped.proofs.EachLemmas.{each_append}
use Rattle.bitcode_serde.specs.ReadColumns.{kind_in_code, left, IsCaseOf}
use Rattle.bitcode_serde.proofs.ColumnLemmas.{same_in_code, one_taken}
use Rattle.bitcode_serde.proofs.column.Column.take_in_turn.Goals as goal

pub loop-i-preserved : goal.loop-i-preserved
loop-i-preserved c =
    let before = c.loop-i.invariant in
    let vs = c.loop-i.values.items in
    let v = c.in_ok-value.value in
    let items = c.in_ok-push.ensures.items in
    let first = kind_in_code c.args.self.now in
    let size : length c.push.new.self.items ≡ c.loop-i._i + 1 = rw items (length-append vs (v ∷ []) ∙ ap (λ n. n + 1) before.1) in
    let case : IsCaseOf first v = subst (λ k. IsCaseOf k v) (same_in_code (kind_in_code c.loop-i.self) first before.3) c.in_ok-value.ensures.of_case in (
      one_taken vs c.push.new.self.items v (left c.args.self.now) (left c.loop-i.self) (left c.take.new.self) before.0 c.in_ok-value.ensures.taken items,
      size,
      subst (AllByRecursion (IsCaseOf first)) (sym items) (each_append (IsCaseOf first) vs (v ∷ []) before.2 (case, tt)),
      c.in_ok-value.ensures.kind ∙ before.3,
      λ entries h. c.in_ok-value.ensures.tallies entries (before.4 entries h),
    )
