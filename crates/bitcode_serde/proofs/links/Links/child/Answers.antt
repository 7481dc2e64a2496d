-- What stands at the position, or at the end.
use Rattle.std.proofs.Common.{◌≡◌, true, subst, sym}
use Rattle.bitcode_serde.specs.Links.{is_among}
use Rattle.bitcode_serde.proofs.EntryLemmas.{found_entry}
use Rattle.bitcode_serde.proofs.LinkLemmas.{among_got}
use Rattle.bitcode_serde.proofs.links.Links.child.Goals as goal

pub returns-in-Some : goal.returns-in-Some
returns-in-Some c =
    let h = c.in-Some.ensures.lookup in
    subst (λ js. is_among c.in-Some.i.now js ≡ true) c.deref.ensures.value
    (among_got c.deref.result.now c.args.position c.in-Some.i.now (found_entry c.deref.result.now c.args.position c.in-Some.i.now h.3.0 (h.3.1 c.in-Some.i.now)))

pub returns-in-Some-last : goal.returns-in-Some-last
returns-in-Some-last c =
    subst (λ js. is_among c.in-Some-last.i.now js ≡ true) c.deref-in-None.ensures.value
    (among_got c.deref-in-None.result.now _ c.in-Some-last.i.now (sym c.in-Some-last.ensures.value))
