-- Ids are arrays of 16 bytes.
use Rattle.std.proofs.Common.{Some, inr, refl, map, length, false, ap, subst, All, ◌≡◌, ◌∙◌, ◌<◌, ◌^◌, arith}
use Rattle.std.proofs.lemmas.List.{length-map}
use Rattle.std.specs.List.{flat_map}
use Rattle.bitcode_schema.specs.Writing.{Writes, HasStranger}
use Rattle.std.proofs.lemmas.Result.{on_ok_weaker, IfErr-weaker, err_from_is_err_and}
use Rattle.bitcode_shapes.specs.Ints.{int_shape}
use Rattle.bitcode_shapes.specs.Shape.{array_shape}
use Rattle.bitcode_schema.specs.Forms.{leaf_content, list_content}
use Rattle.bitcode_schema.specs.Leaves.{int_leaf}
use Rattle.bitcode_schema.specs.Views.{elements_of}
use Rattle.bitcode_schema.specs.declared.schema.IntKind.TheVariants as int
use Rattle.bitcode_schema.proofs.SeenLemmas.{refusal_as, stranger_other}
use Rattle.bitcode_schema.proofs.WholeLemmas.{whole_arrays, stranger_part, stranger_sized}
use Rattle.bitcode_schema.proofs.write.write_ids.Goals as goal

pub returns-in_err-held-clause-refused : goal.returns-in_err-held-clause-refused
returns-in_err-held-clause-refused c =
    let p = err_from_is_err_and c.from_residual.result c.from_residual.ensures.1 in
    rw (p.1, p.2)
    (refusal_as _ (stranger_other elements_of (list_content (leaf_content (Some (int_leaf int.U8)))) (array_shape 16 (int_shape 1 false)) (map (λ v. v.now) c.args.values.now))
    c.in_err-held.ensures.refused)

pub returns-then-not-are_of_size-clause-refused : goal.returns-then-not-are_of_size-clause-refused
returns-then-not-are_of_size-clause-refused c =
    rw c.err.ensures
    (inr (
      refl,
      stranger_sized (leaf_content (Some (int_leaf int.U8))) (int_shape 1 false) (map (λ v. v.now) c.args.values.now)
          (map (λ h. h.now) c.in_ok-held.held.items) c.in_ok-held.ensures.held 16
          (subst (λ hs. All (λ l. length l ≡ 16) (map (λ h. h.now) hs) → ⊥) c.deref.ensures.value c.if-not-are_of_size.ensures),
    ))

pub returns-clause-written : goal.returns-clause-written
returns-clause-written c =
    let sized = subst (λ hs. All (λ l. length l ≡ 16) (map (λ h. h.now) hs)) c.deref.ensures.value c.if-not-are_of_size.ensures in
    let joined = c.in_ok-parts.ensures.joined ∙ ap (λ hs. flat_map (λ l. l) (map (λ h. h.now) hs)) c.deref-2.ensures.value in
    let few : length (map (λ v. v.now) c.in_ok-parts.parts.items) < 2 ^ 64 = let parts = c.in_ok-parts.parts in omega (arith, length-map parts.items (λ v. v.now), parts.ok.0, parts.ok.1, parts.small) in
    on_ok_weaker c.write_leaf.result
    (λ w. whole_arrays (leaf_content (Some (int_leaf int.U8))) (int_shape 1 false) (map (λ v. v.now) c.args.values.now) (map (λ h. h.now) c.in_ok-held.held.items)
    c.in_ok-held.ensures.held 16 (map (λ v. v.now) c.in_ok-parts.parts.items) joined sized few c.args.out.now.items c.write_leaf.new.out.items
    (subst (λ vs. Writes (leaf_content (Some (int_leaf int.U8))) (int_shape 1 false) (map (λ v. v.now) vs) c.args.out.now.items c.write_leaf.new.out.items)
    c.deref-3.ensures.value w)) c.write_leaf.ensures.written

pub returns-clause-refused : goal.returns-clause-refused
returns-clause-refused c =
    let joined = c.in_ok-parts.ensures.joined ∙ ap (λ hs. flat_map (λ l. l) (map (λ h. h.now) hs)) c.deref-2.ensures.value in
    IfErr-weaker c.write_leaf.result _ _
    (λ e. refusal_as e.reason
    (λ stranger. stranger_part (leaf_content (Some (int_leaf int.U8))) (int_shape 1 false) (map (λ v. v.now) c.args.values.now)
    (map (λ h. h.now) c.in_ok-held.held.items) c.in_ok-held.ensures.held 16 (map (λ v. v.now) c.in_ok-parts.parts.items) joined
    (subst (λ vs. HasStranger (leaf_content (Some (int_leaf int.U8))) (int_shape 1 false) (map (λ v. v.now) vs)) c.deref-3.ensures.value stranger)))
    c.write_leaf.ensures.refused
