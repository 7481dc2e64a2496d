-- Durations are rows of seconds and nanoseconds.
use Rattle.std.proofs.Common.{inr, refl, map, length, false, slice_get, subst, All, ◌≡◌}
use Rattle.std.proofs.lemmas.Result.{on_ok_weaker, IfErr-weaker, err_from_is_err_and}
use Rattle.bitcode_shapes.specs.Checked.{nanosecond_shape}
use Rattle.bitcode_shapes.specs.Ints.{int_shape}
use Rattle.bitcode_schema.specs.Views.{Hold, HasOther}
use Rattle.bitcode_schema.specs.Writing.{Writes, HasStranger}
use Rattle.bitcode_schema.proofs.SeenLemmas.{refusal_as}
use Rattle.bitcode_schema.proofs.SpanLemmas.{seconds, nanoseconds, no_row, other_size, no_seconds, no_nanoseconds, other_seconds, other_nanoseconds, whole_spans}
use Rattle.bitcode_schema.proofs.write.write_spans.Goals as goal

pub returns-in_err-rows-clause-refused : goal.returns-in_err-rows-clause-refused
returns-in_err-rows-clause-refused c =
    let p = err_from_is_err_and c.from_residual.result c.from_residual.ensures.1 in
    rw (p.1, p.2) (refusal_as _ (no_row (map (λ v. v.now) c.args.values.now)) c.in_err-rows.ensures.refused)

pub returns-then-not-are_of_size-clause-refused : goal.returns-then-not-are_of_size-clause-refused
returns-then-not-are_of_size-clause-refused c =
    rw c.err.ensures
    (inr (
      refl,
      other_size (map (λ v. v.now) c.args.values.now) (map (λ r. r.now) c.in_ok-rows.rows.items) c.in_ok-rows.ensures.held
          (subst (λ rs. All (λ l. length l ≡ 2) (map (λ r. r.now) rs) → ⊥) c.deref.ensures.value c.if-not-are_of_size.ensures),
    ))

pub returns-in_err-seconds-clause-refused : goal.returns-in_err-seconds-clause-refused
returns-in_err-seconds-clause-refused c =
    let p = err_from_is_err_and c.from_residual-in_err-seconds.result c.from_residual-in_err-seconds.ensures.1 in
    rw (p.1, p.2) (refusal_as _ (λ other. no_seconds (map (λ v. v.now) c.args.values.now) (map (λ r. r.now) c.in_ok-rows.rows.items) c.in_ok-rows.ensures.held (subst (λ rs. All (λ l. length l ≡ 2) (map (λ r. r.now) rs)) c.deref.ensures.value c.if-not-are_of_size.ensures) (subst (λ rs. HasOther (λ row. slice_get row 0) (map (λ r. r.now) rs)) c.deref-2.ensures.value other)) c.in_err-seconds.ensures.refused)

pub returns-in_err-nanoseconds-clause-refused : goal.returns-in_err-nanoseconds-clause-refused
returns-in_err-nanoseconds-clause-refused c =
    let p = err_from_is_err_and c.from_residual-in_err-nanoseconds.result c.from_residual-in_err-nanoseconds.ensures.1 in
    rw (p.1, p.2) (refusal_as _ (λ other. no_nanoseconds (map (λ v. v.now) c.args.values.now) (map (λ r. r.now) c.in_ok-rows.rows.items) c.in_ok-rows.ensures.held (subst (λ rs. All (λ l. length l ≡ 2) (map (λ r. r.now) rs)) c.deref.ensures.value c.if-not-are_of_size.ensures) (subst (λ rs. HasOther (λ row. slice_get row 1) (map (λ r. r.now) rs)) c.deref-3.ensures.value other)) c.in_err-nanoseconds.ensures.refused)

pub returns-in_err-write_leaf-clause-refused : goal.returns-in_err-write_leaf-clause-refused
returns-in_err-write_leaf-clause-refused c =
    let p = err_from_is_err_and c.from_residual-in_err-write_leaf.result c.from_residual-in_err-write_leaf.ensures.1 in
    rw (p.1, p.2) (refusal_as _ (λ stranger. other_seconds (map (λ v. v.now) c.args.values.now) (map (λ r. r.now) c.in_ok-rows.rows.items) c.in_ok-rows.ensures.held (subst (λ rs. All (λ l. length l ≡ 2) (map (λ r. r.now) rs)) c.deref.ensures.value c.if-not-are_of_size.ensures) (map (λ v. v.now) c.in_ok-seconds.seconds.items) (subst (λ rs. Hold (λ row. slice_get row 0) (map (λ r. r.now) rs) (map (λ v. v.now) c.in_ok-seconds.seconds.items)) c.deref-2.ensures.value c.in_ok-seconds.ensures.held) (subst (λ ps. HasStranger seconds (int_shape 8 false) (map (λ v. v.now) ps)) c.deref-4.ensures.value stranger)) c.in_err-write_leaf.ensures.refused)

pub returns-clause-written : goal.returns-clause-written
returns-clause-written c =
    let first = (subst (λ rs. Hold (λ row. slice_get row 0) (map (λ r. r.now) rs) (map (λ v. v.now) c.in_ok-seconds.seconds.items)) c.deref-2.ensures.value c.in_ok-seconds.ensures.held) in
    let second = (subst (λ rs. Hold (λ row. slice_get row 1) (map (λ r. r.now) rs) (map (λ v. v.now) c.in_ok-nanoseconds.nanoseconds.items)) c.deref-3.ensures.value c.in_ok-nanoseconds.ensures.held) in
    on_ok_weaker c.write_nanoseconds.result
    (λ w. whole_spans (map (λ v. v.now) c.args.values.now) (map (λ r. r.now) c.in_ok-rows.rows.items) c.in_ok-rows.ensures.held
    (subst (λ rs. All (λ l. length l ≡ 2) (map (λ r. r.now) rs)) c.deref.ensures.value c.if-not-are_of_size.ensures) (map (λ v. v.now) c.in_ok-seconds.seconds.items) (map (λ v. v.now) c.in_ok-nanoseconds.nanoseconds.items) first second
    c.args.out.now.items _ c.write_nanoseconds.new.out.items
    (subst (λ ps. Writes seconds (int_shape 8 false) (map (λ v. v.now) ps) c.args.out.now.items c.write_leaf.new.out.items) c.deref-4.ensures.value
    c.in_ok-write_leaf.ensures.written)
    (subst (λ ps. Writes nanoseconds nanosecond_shape (map (λ v. v.now) ps) c.write_leaf.new.out.items c.write_nanoseconds.new.out.items) c.deref-5.ensures.value w))
    c.write_nanoseconds.ensures.written

pub returns-clause-refused : goal.returns-clause-refused
returns-clause-refused c =
    let second = (subst (λ rs. Hold (λ row. slice_get row 1) (map (λ r. r.now) rs) (map (λ v. v.now) c.in_ok-nanoseconds.nanoseconds.items)) c.deref-3.ensures.value c.in_ok-nanoseconds.ensures.held) in
    IfErr-weaker c.write_nanoseconds.result _ _
    (λ e. refusal_as e.reason
    (λ stranger. other_nanoseconds (map (λ v. v.now) c.args.values.now) (map (λ r. r.now) c.in_ok-rows.rows.items) c.in_ok-rows.ensures.held (subst (λ rs. All (λ l. length l ≡ 2) (map (λ r. r.now) rs)) c.deref.ensures.value c.if-not-are_of_size.ensures)
    (map (λ v. v.now) c.in_ok-nanoseconds.nanoseconds.items) second
    (subst (λ ps. HasStranger nanoseconds nanosecond_shape (map (λ v. v.now) ps)) c.deref-5.ensures.value stranger))) c.write_nanoseconds.ensures.refused
