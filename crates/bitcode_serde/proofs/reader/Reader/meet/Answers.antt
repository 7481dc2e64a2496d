-- A place is found, or is new, and so many data stand at it.
use Rattle.std.proofs.Common.{refl, arith}
use Rattle.bitcode_serde.specs.declared.places.Below.{Below}
use Rattle.bitcode_serde.proofs.PlaceLemmas.{grown_within}
use Rattle.bitcode_serde.proofs.StepLemmas.{stands_stepped, kept_place}
use Rattle.bitcode_serde.proofs.reader.Reader.meet.Goals as goal

pub returns-clause-kept : goal.returns-clause-kept
returns-clause-kept c =
    kept_place c.args.self.now.places.below.items c.below.new.self.below.items (record { above = c.args.above; step = c.args.step }) c.in_ok-place.place c.in_ok-place.ensures.grown

pub returns-clause-stands : goal.returns-clause-stands
returns-clause-stands c =
    let old = c.args.self.now in
    let new : Below = record { above = c.args.above; step = c.args.step } in
    let within = grown_within old.places.below.items c.below.new.self.below.items new c.in_ok-place.place c.in_ok-place.ensures.grown c.in_ok-place.ensures.found.0 in
    let room = c.in_ok-make_room.ensures.room in
    let size = c.len.ensures in
    stands_stepped old.places.below.items c.below.new.self.below.items new c.in_ok-place.place c.args.count _
    c.in_ok-place.ensures.grown c.in_ok-place.ensures.some c.in_ok-place.ensures.found
    old.counts.items c.make_room.new.counts.items old.counted (omega (arith, within, room, size)) c.make_room.ensures.same old _ refl refl refl refl refl refl refl
