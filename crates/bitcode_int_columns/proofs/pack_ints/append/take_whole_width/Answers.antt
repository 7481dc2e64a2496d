use Rattle.std.proofs.Common.{◌≡◌, map, ◌∙◌, arith}
use Rattle.std.proofs.lemmas.Bool.{eqb-true}
use Rattle.std.proofs.lemmas.List.{length-map}
use Rattle.bitcode_memory.specs.Ints.{least, greatest}
use Rattle.bitcode_int_columns.specs.Narrowing.{plain_width, shifted_width}
use Rattle.bitcode_int_columns.proofs.AppendLemmas.{IfSome-at, ordered}
use Rattle.bitcode_int_columns.proofs.SampleLemmas.{sample_tells}
use Rattle.bitcode_int_columns.proofs.pack_ints.append.take_whole_width.Given.{Over}
use Rattle.bitcode_int_columns.proofs.pack_ints.append.take_whole_width.Goals as goal
use Rattle.bitcode_int_columns.proofs.pack_ints.append.take_whole_width.Goals.{After-width}

pub shifted_width-requires : goal.shifted_width-requires
shifted_width-requires g c = ordered (map g.T.Int.number c.split_at.result.0.now) _ _
    (omega (arith, length-map c.split_at.result.0.now g.T.Int.number, c.split_at.ensures.front_len, c.min.ensures, c.requires))
    (IfSome-at (λ pair. g.T.Int.number pair.0 ≡ least (map g.T.Int.number c.split_at.result.0.now)) c.unwrap-least.ensures c.bounds.ensures.least)
    (IfSome-at (λ pair. g.T.Int.number pair.1 ≡ greatest (map g.T.Int.number c.split_at.result.0.now)) c.unwrap-least.ensures c.bounds.ensures.greatest)

widths : (g : Over) (c : After-width g) → c.shifted_width.result ≡ c.width.result
    → (plain_width g.T.Int.width (least (map g.T.Int.number c.args.entries.now)) (greatest (map g.T.Int.number c.args.entries.now)) ≡ g.T.Int.width)
    × (shifted_width (least (map g.T.Int.number c.args.entries.now)) (greatest (map g.T.Int.number c.args.entries.now)) ≡ g.T.Int.width)
widths g c same =
    sample_tells g.T.Int.number c.args.entries.now c.split_at.result.0.now _ g.T.Int.width c.shifted_width.result g.T.Int.signed _ _
    g.met.T.Int.width_law c.requires c.known_numbers.ensures c.split_at.ensures.front (omega (arith, c.split_at.ensures.front_len, c.min.ensures, c.requires))
    (IfSome-at (λ pair. g.T.Int.number pair.0 ≡ least (map g.T.Int.number c.split_at.result.0.now)) c.unwrap-least.ensures c.bounds.ensures.least)
    (IfSome-at (λ pair. g.T.Int.number pair.1 ≡ greatest (map g.T.Int.number c.split_at.result.0.now)) c.unwrap-least.ensures c.bounds.ensures.greatest)
    c.shifted_width.ensures (same ∙ c.width.ensures)

pub returns-clause-plain : goal.returns-clause-plain
returns-clause-plain g c whole = (widths g c (eqb-true _ _ whole)).0

pub returns-clause-shifted : goal.returns-clause-shifted
returns-clause-shifted g c whole = (widths g c (eqb-true _ _ whole)).1
