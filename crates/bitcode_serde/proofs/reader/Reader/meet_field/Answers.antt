-- As many data stand at a field as at the tuple.
use Rattle.std.proofs.Common.{map, sym, subst}
use Rattle.bitcode_untyped.specs.Machine.{whole}
use Rattle.bitcode_serde.specs.Reading.{Hosts}
use Rattle.bitcode_serde.specs.Places.{places, place_at}
use Rattle.bitcode_serde.proofs.PlaceLemmas.{inside_places}
use Rattle.bitcode_serde.proofs.reader.Reader.meet_field.Goals as goal

pub returns-clause-stands : goal.returns-clause-stands
returns-clause-stands c = λ a s.
    let below = c.args.self.now.places.below.items in
    c.in_ok-inside.ensures.stands a s
    (subst (λ n. Hosts (map whole a.opened) (place_at (places below) c.args.place) n) (sym c.count_at-count.ensures) (s.hosts c.args.place (inside_places below c.args.place c.requires.place)))
