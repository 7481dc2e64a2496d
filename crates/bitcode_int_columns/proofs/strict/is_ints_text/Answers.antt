use Rattle.std.proofs.Common.{◌≡◌, ◌||◌, ◌&&◌, ◌-◌, ◌*◌, ◌<◌, ◌∷◌, ◌++◌, eqb, true, false, pos, ℤ, length, refl, sym, ap, ap₂, ◌∙◌, arith}
use Rattle.std.specs.Prelude.{◌-ℤ◌, unsigned_abs}
use Rattle.std.proofs.lemmas.Bool.{false≢true}
use Rattle.bitcode_columns.specs.IntColumn.{halvings}
use Rattle.bitcode_memory.specs.Ints.{residue, least, greatest}
use Rattle.bitcode_memory.specs.LittleEndian.{number_bytes}
use Rattle.bitcode_int_columns.specs.Narrowing.{plain_width, shifted_width}
use Rattle.bitcode_int_columns.proofs.NarrowLemmas.{wide_distance}
use Rattle.bitcode_int_columns.proofs.StrictIntLemmas.{bare_told, shift_true, shift_false, plain_none, shifted_none, plain_told, shifted_told, far_fits, plain_natural, residues_in_order}
use Rattle.bitcode_int_columns.proofs.strict.is_ints_text.Goals as goal

pub returns-then-is_bare : goal.returns-then-is_bare
returns-then-is_bare g c entries size numbers low high spelled =
    let bare : (eqb (length entries) 0 || (eqb g.T.Int.width 2 && eqb (length entries) 1)) ≡ true
    = ap₂ (λ n w. eqb n 0 || (eqb w 2 && eqb n 1)) size (sym c.width.ensures) ∙ sym c.is_bare.ensures ∙ c.if-is_bare.true in
    let told = bare_told g.T.Int.width entries c.args.packed.now c.requires.wide bare spelled in
    (λ t. told, λ same. refl)

pub is_narrow_text-requires : goal.is_narrow_text-requires
is_narrow_text-requires g c one =
    let far : c.to_wide-far.result ≡ unsigned_abs (g.T.Int.number c.args.high -ℤ g.T.Int.number c.args.low) =
    wide_distance g.T.Int.width _ _ _ _ _ g.T.Int.signed (g.T.Int.number c.args.low) (g.T.Int.number c.args.high) g.met.T.Int.unsigned_law g.met.T.Int.width_law
    c.to_unsigned-then-is_shifted.ensures.value c.to_unsigned.ensures.value c.to_unsigned-then-is_shifted.ensures.in_range c.to_unsigned.ensures.in_range
    c.wrapping_sub.ensures c.to_wide-far.ensures.same c.requires.order in
    let fits = far_fits (g.T.Int.number c.args.low) (g.T.Int.number c.args.high) (sym c.shifted_width-shifted.ensures ∙ one) in
    (omega arith, omega arith)

pub is_narrow_text-requires-else-is_shifted : goal.is_narrow_text-requires-else-is_shifted
is_narrow_text-requires-else-is_shifted g c one =
    let natural = plain_natural g.T.Int.width (g.T.Int.number c.args.low) (g.T.Int.number c.args.high) c.requires.wide (sym c.plain_width-plain.ensures ∙ one) in
    let order = residues_in_order g.T.Int.width (g.T.Int.number c.args.low) (g.T.Int.number c.args.high) natural.0 c.requires.order natural.1 in
    let low = c.to_wide-least.ensures.same ∙ c.to_unsigned-else-is_shifted.ensures.value in
    let high = c.to_wide-greatest.ensures.same ∙ c.to_unsigned-else-is_shifted-2.ensures.value in
    (omega (arith, order.0, low, high), omega (arith, order.1, high))

pub returns-in_default : goal.returns-in_default
returns-in_default g c entries size numbers low high spelled =
    let width = g.T.Int.width in
    let more : (eqb (length entries) 0 || (eqb width 2 && eqb (length entries) 1)) ≡ false
    = ap₂ (λ n w. eqb n 0 || (eqb w 2 && eqb n 1)) size (sym c.width.ensures) ∙ sym c.is_bare.ensures ∙ c.if-is_bare.false in
    let narrow = c.shifted_width-shifted.result in
    let is : narrow ≡ shifted_width (least entries) (greatest entries) = c.shifted_width-shifted.ensures ∙ ap₂ shifted_width (sym low) (sym high) in
    let plain : c.plain_width-plain.result ≡ plain_width width (least entries) (greatest entries) = c.plain_width-plain.ensures ∙ ap₂ (plain_width width) (sym low) (sym high) in
    let parts = shift_true c.args.count narrow c.plain_width-plain.result (sym c.is_shifted.ensures ∙ c.if-is_shifted.true) in
    let smaller : shifted_width (least entries) (greatest entries) < plain_width width (least entries) (greatest entries) = omega (arith, parts.1, is, plain) in
    let tag : c.saturating_sub-tag.result ≡ 2 * (halvings width - halvings narrow) - 1
    = c.saturating_sub-tag.ensures ∙ ap (λ t. t - 1) (c.tag_for.ensures ∙ ap (λ w. 2 * (halvings w - halvings narrow)) c.width-then-is_shifted.ensures) in (
      λ f. absurd (false≢true f),
      shifted_none width g.T.Int.signed g.met.T.Int.width_law c.requires.wide entries numbers c.args.packed.now more spelled narrow c.saturating_sub-tag.result is
          (omega (arith, parts.0, size)) smaller tag (λ body whole. c.in_default.ensures _ whole),
    )

pub returns-in_default-behind_least : goal.returns-in_default-behind_least
returns-in_default-behind_least g c entries size numbers low high spelled =
    let width = g.T.Int.width in
    let more : (eqb (length entries) 0 || (eqb width 2 && eqb (length entries) 1)) ≡ false
    = ap₂ (λ n w. eqb n 0 || (eqb w 2 && eqb n 1)) size (sym c.width.ensures) ∙ sym c.is_bare.ensures ∙ c.if-is_bare.false in
    let narrow = c.shifted_width-shifted.result in
    let is : narrow ≡ shifted_width (least entries) (greatest entries) = c.shifted_width-shifted.ensures ∙ ap₂ shifted_width (sym low) (sym high) in
    let plain : c.plain_width-plain.result ≡ plain_width width (least entries) (greatest entries) = c.plain_width-plain.ensures ∙ ap₂ (plain_width width) (sym low) (sym high) in
    let parts = shift_true c.args.count narrow c.plain_width-plain.result (sym c.is_shifted.ensures ∙ c.if-is_shifted.true) in
    let smaller : shifted_width (least entries) (greatest entries) < plain_width width (least entries) (greatest entries) = omega (arith, parts.1, is, plain) in
    let tag : c.saturating_sub-tag.result ≡ 2 * (halvings width - halvings narrow) - 1
    = c.saturating_sub-tag.ensures ∙ ap (λ t. t - 1) (c.tag_for.ensures ∙ ap (λ w. 2 * (halvings w - halvings narrow)) c.width-then-is_shifted.ensures) in
    let behind_is : c.args.packed.now ≡ c.saturating_sub-tag.result ∷ c.in-Some.behind.now = c.in-Some.ensures in (
      λ f. absurd (false≢true f),
      shifted_none width g.T.Int.signed g.met.T.Int.width_law c.requires.wide entries numbers c.args.packed.now more spelled narrow c.saturating_sub-tag.result is
          (omega (arith, parts.0, size)) smaller tag
          (λ body whole.
          let joined : c.saturating_sub-tag.result ∷ c.in-Some.behind.now ≡ c.saturating_sub-tag.result ∷ (number_bytes width (residue width (least entries)) ++ body)
          = sym behind_is ∙ whole in
          let behind : c.in-Some.behind.now ≡ number_bytes width (residue width (least entries)) ++ body = cc joined in
          c.in_default-behind_least.ensures body (behind ∙ ap (λ z. number_bytes width (residue width z) ++ body) low)),
    )

pub returns-in_default-behind_tag : goal.returns-in_default-behind_tag
returns-in_default-behind_tag g c entries size numbers low high spelled =
    let width = g.T.Int.width in
    let more : (eqb (length entries) 0 || (eqb width 2 && eqb (length entries) 1)) ≡ false
    = ap₂ (λ n w. eqb n 0 || (eqb w 2 && eqb n 1)) size (sym c.width.ensures) ∙ sym c.is_bare.ensures ∙ c.if-is_bare.false in
    let narrow = c.plain_width-plain.result in
    let is : narrow ≡ plain_width width (least entries) (greatest entries) = c.plain_width-plain.ensures ∙ ap₂ (plain_width width) (sym low) (sym high) in
    let shifted : c.shifted_width-shifted.result ≡ shifted_width (least entries) (greatest entries) = c.shifted_width-shifted.ensures ∙ ap₂ shifted_width (sym low) (sym high) in
    let stays = shift_false c.args.count c.shifted_width-shifted.result narrow (sym c.is_shifted.ensures ∙ c.if-is_shifted.false) in
    let tag : c.tag_for-else-is_shifted.result ≡ 2 * (halvings width - halvings narrow)
    = c.tag_for-else-is_shifted.ensures ∙ ap (λ w. 2 * (halvings w - halvings narrow)) c.width-else-is_shifted.ensures in (
      λ f. absurd (false≢true f),
      plain_none width g.T.Int.signed g.met.T.Int.width_law c.requires.wide entries numbers c.args.packed.now more spelled narrow c.tag_for-else-is_shifted.result is
          (λ many less. stays (omega (arith, many, size)) (omega (arith, less, shifted, is))) tag (λ body whole. c.in_default-behind_tag.ensures body whole),
    )

pub returns-in-Some-behind_least : goal.returns-in-Some-behind_least
returns-in-Some-behind_least g c entries size numbers low high spelled =
    let width = g.T.Int.width in
    let more : (eqb (length entries) 0 || (eqb width 2 && eqb (length entries) 1)) ≡ false
    = ap₂ (λ n w. eqb n 0 || (eqb w 2 && eqb n 1)) size (sym c.width.ensures) ∙ sym c.is_bare.ensures ∙ c.if-is_bare.false in
    let narrow = c.shifted_width-shifted.result in
    let is : narrow ≡ shifted_width (least entries) (greatest entries) = c.shifted_width-shifted.ensures ∙ ap₂ shifted_width (sym low) (sym high) in
    let plain : c.plain_width-plain.result ≡ plain_width width (least entries) (greatest entries) = c.plain_width-plain.ensures ∙ ap₂ (plain_width width) (sym low) (sym high) in
    let parts = shift_true c.args.count narrow c.plain_width-plain.result (sym c.is_shifted.ensures ∙ c.if-is_shifted.true) in
    let smaller : shifted_width (least entries) (greatest entries) < plain_width width (least entries) (greatest entries) = omega (arith, parts.1, is, plain) in
    let tag : c.saturating_sub-tag.result ≡ 2 * (halvings width - halvings narrow) - 1
    = c.saturating_sub-tag.ensures ∙ ap (λ t. t - 1) (c.tag_for.ensures ∙ ap (λ w. 2 * (halvings w - halvings narrow)) c.width-then-is_shifted.ensures) in
    let body = c.in-Some-behind_least.body.now in
    let behind_is : c.args.packed.now ≡ c.saturating_sub-tag.result ∷ c.in-Some.behind.now = c.in-Some.ensures in
    let body_is : c.in-Some.behind.now ≡ number_bytes width (residue width (g.T.Int.number c.args.low)) ++ body = c.in-Some-behind_least.ensures in
    let whole : c.args.packed.now ≡ c.saturating_sub-tag.result ∷ (number_bytes width (residue width (least entries)) ++ body)
    = behind_is ∙ ap (λ b. c.saturating_sub-tag.result ∷ b) (body_is ∙ ap (λ z. number_bytes width (residue width z) ++ body) (sym low)) in
    let far : c.to_wide-far.result ≡ unsigned_abs (greatest entries -ℤ least entries) =
    wide_distance width _ _ _ _ _ g.T.Int.signed (g.T.Int.number c.args.low) (g.T.Int.number c.args.high) g.met.T.Int.unsigned_law g.met.T.Int.width_law
    c.to_unsigned-then-is_shifted.ensures.value c.to_unsigned.ensures.value c.to_unsigned-then-is_shifted.ensures.in_range c.to_unsigned.ensures.in_range
    c.wrapping_sub.ensures c.to_wide-far.ensures.same c.requires.order
    ∙ ap₂ (λ (h l : ℤ). unsigned_abs (h -ℤ l)) (sym high) (sym low) in
    shifted_told width g.T.Int.signed g.met.T.Int.width_law c.requires.wide entries numbers c.args.packed.now more spelled narrow c.saturating_sub-tag.result body
    c.is_narrow_text.result is (omega (arith, parts.0, size)) smaller tag whole c.known_bytes.ensures
    (λ ns many each bounds narrow_spelled. c.is_narrow_text.ensures ns (many ∙ size) each
    (λ one. let b = bounds one in (b.0, b.1 ∙ ap pos (sym far))) narrow_spelled)

pub returns-in-Some-behind_tag : goal.returns-in-Some-behind_tag
returns-in-Some-behind_tag g c entries size numbers low high spelled =
    let width = g.T.Int.width in
    let more : (eqb (length entries) 0 || (eqb width 2 && eqb (length entries) 1)) ≡ false
    = ap₂ (λ n w. eqb n 0 || (eqb w 2 && eqb n 1)) size (sym c.width.ensures) ∙ sym c.is_bare.ensures ∙ c.if-is_bare.false in
    let narrow = c.plain_width-plain.result in
    let is : narrow ≡ plain_width width (least entries) (greatest entries) = c.plain_width-plain.ensures ∙ ap₂ (plain_width width) (sym low) (sym high) in
    let shifted : c.shifted_width-shifted.result ≡ shifted_width (least entries) (greatest entries) = c.shifted_width-shifted.ensures ∙ ap₂ shifted_width (sym low) (sym high) in
    let stays = shift_false c.args.count c.shifted_width-shifted.result narrow (sym c.is_shifted.ensures ∙ c.if-is_shifted.false) in
    let tag : c.tag_for-else-is_shifted.result ≡ 2 * (halvings width - halvings narrow)
    = c.tag_for-else-is_shifted.ensures ∙ ap (λ w. 2 * (halvings w - halvings narrow)) c.width-else-is_shifted.ensures in
    let low_is : c.to_wide-least.result ≡ residue width (least entries) = c.to_wide-least.ensures.same ∙ c.to_unsigned-else-is_shifted.ensures.value ∙ ap (residue width) (sym low) in
    let high_is : c.to_wide-greatest.result ≡ residue width (greatest entries)
    = c.to_wide-greatest.ensures.same ∙ c.to_unsigned-else-is_shifted-2.ensures.value ∙ ap (residue width) (sym high) in
    plain_told width g.T.Int.signed g.met.T.Int.width_law c.requires.wide entries numbers c.args.packed.now more spelled narrow c.tag_for-else-is_shifted.result
    c.in-Some-behind_tag.body.now c.is_narrow_text-else-is_shifted.result is
    (λ many less. stays (omega (arith, many, size)) (omega (arith, less, shifted, is))) tag c.in-Some-behind_tag.ensures c.known_bytes.ensures
    (λ ns many each bounds narrow_spelled. c.is_narrow_text-else-is_shifted.ensures ns (many ∙ size) each
    (λ one. let b = bounds one in (b.0 ∙ ap pos (sym low_is), b.1 ∙ ap pos (sym high_is))) narrow_spelled)
