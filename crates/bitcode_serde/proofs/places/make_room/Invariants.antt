use Rattle.std.proofs.Common.{◌≡◌, ℕ, suc, ◌-◌, vec_len}
use Rattle.bitcode_serde.specs.Links.{children, last_field, column_link}
use Rattle.bitcode_serde.proofs.places.make_room.Given as goal

abbrev pub invariant-loop-alloc : goal.invariant-loop-alloc
invariant-loop-alloc l = record {
  children : (above : ℕ) → children l.links.items above ≡ children l.initial.links.items above;
  last : (above : ℕ) → last_field l.links.items above ≡ last_field l.initial.links.items above;
  columns : (n : ℕ) → column_link l.links.items n ≡ column_link l.initial.links.items n;
}

abbrev pub decreases-loop-alloc : goal.decreases-loop-alloc
decreases-loop-alloc l = suc l.place - vec_len l.links
