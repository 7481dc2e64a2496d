-- One field after another.
use Rattle.std.proofs.Common.{arith, ◌≡◌, suc, ◌+◌, ◌-◌, ◌++◌, [], ◌∷◌, length, map, refl, ap, sym, subst, ◌∙◌, length-append}
use Rattle.std.proofs.lemmas.List.{map-append}
use Rattle.std.proofs.lemmas.Result.{err_from_is_err_and}
use Rattle.bitcode_untyped.specs.ShapeTree.{tree_and, no_trees}
use Rattle.bitcode_serde.proofs.ColumnLemmas.{passed_on}
use Rattle.bitcode_serde.proofs.ValueLemmas.{still_there}
use Rattle.bitcode_serde_types.specs.Arrays.{repeated, array_tree, array_datum}
use Rattle.bitcode_serde_types.specs.ReadingAs.{ReadsFieldAs}
use Rattle.bitcode_serde_types.specs.Refusals.{IsRefusalAt, IsFieldRefusalAt}
use Rattle.bitcode_serde_types.proofs.AlikeLemmas.{repeated_count}
use Rattle.bitcode_serde_types.proofs.FieldsRead.{FieldsKept, no_fields_kept, field_kept, field_not_kept, tuple_kept}
use Rattle.bitcode_serde_types.proofs.arrays.read_alike.Goals as goal

pub loop-i-init : goal.loop-i-init
loop-i-init g c =
    let s = g.T.HasShape.tree c.args.left in
    let trees = repeated c.args.count s in
    let empty = c.new-items.ensures.items in
    let all : c.args.count ≡ c.args.count - 0 = omega arith in (
      subst (λ xs. FieldsKept trees c.args.place c.args.reader.now c.take.new.self 0 (map g.T.HasShape.datum xs) (repeated (c.args.count - 0) s) c.args.reader.now c.take.new.self)
          (sym empty)
          (subst (λ k. FieldsKept trees c.args.place c.args.reader.now c.take.new.self 0 [] (repeated k s) c.args.reader.now c.take.new.self) all
          (no_fields_kept trees c.args.place c.args.reader.now c.take.new.self c.requires.steady)),
      ap length empty,
    )

pub read_field-requires : goal.read_field-requires
read_field-requires g c κs =
    let k = c.loop-i.invariant.0 in
    ((refl, tt), (still_there c.args.reader.now c.loop-i.reader c.args.place k.continues c.requires.place, k.continues.steady))

pub returns-in_err-item-clause-refused : goal.returns-in_err-item-clause-refused
returns-in_err-item-clause-refused g c =
    let s = g.T.HasShape.tree c.args.left in
    let l = c.loop-i in
    let trees = repeated c.args.count s in
    let rest = repeated (c.args.count - (l.i + 1)) s in
    let more : c.args.count - l.i ≡ suc (c.args.count - (l.i + 1)) = omega arith in
    let next : repeated (c.args.count - l.i) s ≡ tree_and s rest = ap (λ k. repeated k s) more in
    let k = subst (λ ss. FieldsKept trees c.args.place c.args.reader.now c.take.new.self l.i (map g.T.HasShape.datum l.items.items) ss l.reader l.budget) next l.invariant.0 in
    let y = err_from_is_err_and c.from_residual.result c.from_residual.ensures.1 in
    passed_on (λ e. IsRefusalAt (array_tree c.args.count s) c.args.place c.args.reader.now e.reason) c.from_residual.result c.in_err-item.field-0.0 y.0 y.1 y.2
    (field_not_kept trees c.args.place c.args.reader.now c.take.new.self k _
    (subst (λ n. IsFieldRefusalAt s c.args.place l.i n l.reader c.in_err-item.field-0.0.reason) (sym (repeated_count c.args.count s)) c.in_err-item.ensures.refused))

pub loop-i-preserved : goal.loop-i-preserved
loop-i-preserved g c =
    let s = g.T.HasShape.tree c.args.left in
    let f = g.T.HasShape.datum in
    let l = c.loop-i in
    let t = c.in_ok-item.item in
    let trees = repeated c.args.count s in
    let rest = repeated (c.args.count - (l.i + 1)) s in
    let more : c.args.count - l.i ≡ suc (c.args.count - (l.i + 1)) = omega arith in
    let next : repeated (c.args.count - l.i) s ≡ tree_and s rest = ap (λ k. repeated k s) more in
    let k = subst (λ ss. FieldsKept trees c.args.place c.args.reader.now c.take.new.self l.i (map f l.items.items) ss l.reader l.budget) next l.invariant.0 in
    let pushed : c.push.new.self.items ≡ l.items.items ++ t ∷ [] = c.in_ok-push.ensures.items in
    let longer = ap length pushed in
    let so_far = l.invariant.1 in (
      subst (λ ds. FieldsKept trees c.args.place c.args.reader.now c.take.new.self (l.i + 1) ds rest c.read_field.new.reader c.read_field.new.budget)
          (sym (ap (map f) pushed ∙ map-append f l.items.items (t ∷ [])))
          (field_kept trees c.args.place c.args.reader.now c.take.new.self k f t c.read_field.new.reader c.read_field.new.budget c.in_ok-item.ensures.continues
          (subst (λ n. ReadsFieldAs f s c.args.place l.i n l.reader l.budget t c.read_field.new.reader c.read_field.new.budget) (sym (repeated_count c.args.count s))
          c.in_ok-item.ensures.read)),
      omega (arith, longer, so_far, length-append l.items.items (t ∷ [])),
    )

pub returns-clause-read : goal.returns-clause-read
returns-clause-read g c =
    let s = g.T.HasShape.tree c.args.left in
    let f = g.T.HasShape.datum in
    let l = c.loop-i in
    let trees = repeated c.args.count s in
    let none : c.args.count - l.i ≡ 0 = omega arith in
    let last : repeated (c.args.count - l.i) s ≡ no_trees = ap (λ k. repeated k s) none in
    let k = subst (λ ss. FieldsKept trees c.args.place c.args.reader.now c.take.new.self l.i (map f l.items.items) ss l.reader l.budget) last l.invariant.0 in
    tuple_kept trees c.args.place c.args.reader.now c.take.new.self k (λ v. array_datum f v.items) l.items c.args.budget.now refl c.take.ensures
