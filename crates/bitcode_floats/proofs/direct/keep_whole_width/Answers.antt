-- The first four tell of all.
use Rattle.std.proofs.Common.{pos, map, ap, ◌∙◌, arith}
use Rattle.std.proofs.lemmas.Bool.{leb-true}
use Rattle.bitcode_memory.specs.Ints.{least, greatest}
use Rattle.bitcode_floats.proofs.DirectLemmas.{whole_text}
use Rattle.bitcode_floats.proofs.direct.keep_whole_width.Goals as goal

pub returns-in-Some : goal.returns-in-Some
returns-in-Some c far =
    whole_text c.args.floats.now c.in-Some.least c.in-Some.greatest c.known_bits.ensures (omega (arith, c.if-floats-lt4.false))
    (c.in-Some.ensures.least ∙ ap (λ four. least (map pos four)) c.bits_of_f64s.ensures)
    (c.in-Some.ensures.greatest ∙ ap (λ four. greatest (map pos four)) c.bits_of_f64s.ensures)
    (omega (arith, leb-true _ _ far, c.saturating_sub.ensures))
