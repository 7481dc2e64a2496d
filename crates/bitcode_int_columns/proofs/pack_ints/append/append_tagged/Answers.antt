use Rattle.std.proofs.Common.{◌≡◌, ◌∙◌, length, map, refl, sym, subst, arith}
use Rattle.std.proofs.lemmas.Result.{on_ok_weaker}
use Rattle.std.proofs.lemmas.List.{length-map}
use Rattle.bitcode_memory.specs.Ints.{least, greatest}
use Rattle.bitcode_int_columns.proofs.AppendLemmas.{IfSome-at, ordered, tagged_shifted, tagged_plain}
use Rattle.bitcode_int_columns.proofs.RoomLemmas.{shifted_takes, plain_takes}
use Rattle.bitcode_int_columns.proofs.SampleLemmas.{none_narrower}
use Rattle.bitcode_memory.specs.IntWidths.{IsWidth}
use Rattle.bitcode_int_columns.proofs.pack_ints.append.append_tagged.Goals as goal

pub plain_width-plain-requires : goal.plain_width-plain-requires
plain_width-plain-requires g c = ordered (map g.T.Int.number c.args.entries.now) _ _ (omega (arith, length-map c.args.entries.now g.T.Int.number, c.requires))
    (IfSome-at (λ pair. g.T.Int.number pair.0 ≡ least (map g.T.Int.number c.args.entries.now)) c.unwrap-least.ensures c.bounds.ensures.least)
    (IfSome-at (λ pair. g.T.Int.number pair.1 ≡ greatest (map g.T.Int.number c.args.entries.now)) c.unwrap-least.ensures c.bounds.ensures.greatest)

pub shifted_width-shifted-requires : goal.shifted_width-shifted-requires
shifted_width-shifted-requires g c = ordered (map g.T.Int.number c.args.entries.now) _ _ (omega (arith, length-map c.args.entries.now g.T.Int.number, c.requires))
    (IfSome-at (λ pair. g.T.Int.number pair.0 ≡ least (map g.T.Int.number c.args.entries.now)) c.unwrap-least.ensures c.bounds.ensures.least)
    (IfSome-at (λ pair. g.T.Int.number pair.1 ≡ greatest (map g.T.Int.number c.args.entries.now)) c.unwrap-least.ensures c.bounds.ensures.greatest)

pub returns-then-is_shifted-clause-written : goal.returns-then-is_shifted-clause-written
returns-then-is_shifted-clause-written g c =
    on_ok_weaker c.append_shifted.result
    (λ written. tagged_shifted g.T.Int.number c.args.entries.now g.T.Int.width _ _ g.T.Int.signed _ _ _ _ g.met.T.Int.width_law c.requires c.bounds.ensures.in_range
    (IfSome-at (λ pair. g.T.Int.number pair.0 ≡ least (map g.T.Int.number c.args.entries.now)) c.unwrap-least.ensures c.bounds.ensures.least)
    (IfSome-at (λ pair. g.T.Int.number pair.1 ≡ greatest (map g.T.Int.number c.args.entries.now)) c.unwrap-least.ensures c.bounds.ensures.greatest)
    c.plain_width-plain.ensures c.shifted_width-shifted.ensures (sym c.is_shifted.ensures ∙ c.if-is_shifted.true) written)
    c.append_shifted.ensures.written

pub returns-else-is_shifted-clause-written : goal.returns-else-is_shifted-clause-written
returns-else-is_shifted-clause-written g c =
    on_ok_weaker c.append_plain-else-is_shifted.result
    (λ written. tagged_plain g.T.Int.number c.args.entries.now g.T.Int.width _ _ g.T.Int.signed _ _ _ _ g.met.T.Int.width_law c.requires c.bounds.ensures.in_range
    (IfSome-at (λ pair. g.T.Int.number pair.0 ≡ least (map g.T.Int.number c.args.entries.now)) c.unwrap-least.ensures c.bounds.ensures.least)
    (IfSome-at (λ pair. g.T.Int.number pair.1 ≡ greatest (map g.T.Int.number c.args.entries.now)) c.unwrap-least.ensures c.bounds.ensures.greatest)
    c.plain_width-plain.ensures c.shifted_width-shifted.ensures (sym c.is_shifted.ensures ∙ c.if-is_shifted.false) written)
    c.append_plain-else-is_shifted.ensures.written

pub returns-then-is_shifted-clause-succeeds : goal.returns-then-is_shifted-clause-succeeds
returns-then-is_shifted-clause-succeeds g c more room =
    let takes =
    shifted_takes g.T.Int.number c.args.entries.now g.T.Int.width _ _ g.T.Int.signed _ _ g.met.T.Int.width_law c.requires c.bounds.ensures.in_range
    (IfSome-at (λ pair. g.T.Int.number pair.0 ≡ least (map g.T.Int.number c.args.entries.now)) c.unwrap-least.ensures c.bounds.ensures.least)
    (IfSome-at (λ pair. g.T.Int.number pair.1 ≡ greatest (map g.T.Int.number c.args.entries.now)) c.unwrap-least.ensures c.bounds.ensures.greatest)
    c.plain_width-plain.ensures c.shifted_width-shifted.ensures (sym c.is_shifted.ensures ∙ c.if-is_shifted.true) in
    c.append_shifted.ensures.succeeds (λ one. more (takes.1 ∙ one)) (omega (arith, room, takes.0))

pub returns-else-is_shifted-clause-succeeds : goal.returns-else-is_shifted-clause-succeeds
returns-else-is_shifted-clause-succeeds g c more room =
    let takes =
    plain_takes g.T.Int.number c.args.entries.now g.T.Int.width _ _ g.T.Int.signed _ _ g.met.T.Int.width_law c.requires c.bounds.ensures.in_range
    (IfSome-at (λ pair. g.T.Int.number pair.0 ≡ least (map g.T.Int.number c.args.entries.now)) c.unwrap-least.ensures c.bounds.ensures.least)
    (IfSome-at (λ pair. g.T.Int.number pair.1 ≡ greatest (map g.T.Int.number c.args.entries.now)) c.unwrap-least.ensures c.bounds.ensures.greatest)
    c.plain_width-plain.ensures c.shifted_width-shifted.ensures (sym c.is_shifted.ensures ∙ c.if-is_shifted.false) in
    c.append_plain-else-is_shifted.ensures.succeeds (λ one. more (takes.1 ∙ one)) (omega (arith, room, takes.0))

pub append_plain-requires : goal.append_plain-requires
append_plain-requires g c = subst IsWidth (sym c.width.ensures) g.met.T.Int.width_law

pub returns-then-take_whole_width-clause-written : goal.returns-then-take_whole_width-clause-written
returns-then-take_whole_width-clause-written g c =
    on_ok_weaker c.append_plain.result
    (λ written. tagged_plain g.T.Int.number c.args.entries.now g.T.Int.width c.width.result c.width.result g.T.Int.signed
    (least (map g.T.Int.number c.args.entries.now)) (greatest (map g.T.Int.number c.args.entries.now)) _ _ g.met.T.Int.width_law c.requires c.take_whole_width.ensures.in_range
    refl refl (c.width.ensures ∙ sym (c.take_whole_width.ensures.plain c.if-take_whole_width.true)) (c.width.ensures ∙ sym (c.take_whole_width.ensures.shifted c.if-take_whole_width.true))
    (none_narrower (length c.args.entries.now) c.width.result) written)
    c.append_plain.ensures.written

pub returns-then-take_whole_width-clause-succeeds : goal.returns-then-take_whole_width-clause-succeeds
returns-then-take_whole_width-clause-succeeds g c more room =
    let takes =
    plain_takes g.T.Int.number c.args.entries.now g.T.Int.width c.width.result c.width.result g.T.Int.signed
    (least (map g.T.Int.number c.args.entries.now)) (greatest (map g.T.Int.number c.args.entries.now)) g.met.T.Int.width_law c.requires c.take_whole_width.ensures.in_range
    refl refl (c.width.ensures ∙ sym (c.take_whole_width.ensures.plain c.if-take_whole_width.true)) (c.width.ensures ∙ sym (c.take_whole_width.ensures.shifted c.if-take_whole_width.true))
    (none_narrower (length c.args.entries.now) c.width.result) in
    c.append_plain.ensures.succeeds (λ one. more (takes.1 ∙ one)) (omega (arith, room, takes.0))
