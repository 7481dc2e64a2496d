-- The field's place is one of the reader's.
use Rattle.std.proofs.Common.{refl}
use Rattle.bitcode_serde.specs.Places.{places, place_at}
use Rattle.bitcode_serde_types.proofs.entering.find_field.Goals as goal

pub returns-clause-inside : goal.returns-clause-inside
returns-clause-inside c = (c.in_ok-found.ensures.found (place_at (places c.args.reader.now.places.below.items) c.args.place) (c.requires.place, refl)).0
