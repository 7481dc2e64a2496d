-- The elements have their place, and the array is counted where it has some.
use Rattle.std.proofs.Common.{length, ◌*◌, ◌+◌, ◌≤◌, refl, ap, arith}
use Rattle.std.proofs.lemmas.Result.{err_from_is_err_and}
use Rattle.bitcode_coder.proofs.RefusalLemmas.{refusal_weaker}
use Rattle.bitcode_parts.proofs.ArrayLemmas.{array_room-elements, array_room-count, array_room-taken, joins_array, array_overflows}
use Rattle.bitcode_parts.proofs.arrays.ArrayEncoderEncoderArray.encode.Goals as goal

pub encode_each-requires : goal.encode_each-requires
encode_each-requires g c =
    let place : 1 * g.row.N ≤ g.E.HoldsColumns.room c.args.self.now.elements =
    array_room-elements g.row.N c.args.self.now.count 1 (g.E.HoldsColumns.room c.args.self.now.elements) c.requires in
    rw c.as_slice.ensures (omega (arith, place, c.type_inv.t))

pub returns-in_err-encode_each-clause-refused : goal.returns-in_err-encode_each-clause-refused
returns-in_err-encode_each-clause-refused g c =
    let refused = err_from_is_err_and c.from_residual.result c.from_residual.ensures.1 in
    rw (refused.1, refused.2) (
    refusal_weaker _ (
    array_overflows g.T.Shaped.data.lists g.T.Shaped.data.shape c.args.t.now g.row.N c.args.self.now.count (g.E.HoldsColumns.columns c.args.self.now.elements)
    ) (rw c.as_slice.ensures at c.in_err-encode_each.ensures.refused)
    )

pub invariant_of-self-then-this-gt0 : goal.invariant_of-self-then-this-gt0
invariant_of-self-then-this-gt0 g c = record {
  fits =
      array_room-count g.row.N c.args.self.now.count 1 (g.E.HoldsColumns.room c.args.self.now.elements) c.requires c.args.self.now.fits;
  uncounted = λ none. absurd (omega arith);
}

pub returns-then-this-gt0-clause-joined : goal.returns-then-this-gt0-clause-joined
returns-then-this-gt0-clause-joined g c =
    joins_array g.T.Shaped.data.lists g.T.Shaped.data.shape c.args.t.now g.row.N c.args.self.now.count (c.args.self.now.count + 1)
    (g.E.HoldsColumns.columns c.args.self.now.elements) (g.E.HoldsColumns.columns c.encode_each.new.elements) (λ some. refl)
    (array_room-count g.row.N c.args.self.now.count 1 (g.E.HoldsColumns.room c.args.self.now.elements) c.requires c.args.self.now.fits)
    (rw c.as_slice.ensures at c.in_ok-encode_each.ensures.joined)

pub returns-then-this-gt0-clause-room : goal.returns-then-this-gt0-clause-room
returns-then-this-gt0-clause-room g c =
    array_room-taken g.row.N c.args.self.now.count (c.args.self.now.count + 1) _ (g.E.HoldsColumns.room c.encode_each.new.elements) (omega arith)
    (omega (arith, c.in_ok-encode_each.ensures.room, ap length c.as_slice.ensures, c.type_inv.t))

pub returns-else-this-gt0-clause-joined : goal.returns-else-this-gt0-clause-joined
returns-else-this-gt0-clause-joined g c =
    joins_array g.T.Shaped.data.lists g.T.Shaped.data.shape c.args.t.now g.row.N c.args.self.now.count c.args.self.now.count
    (g.E.HoldsColumns.columns c.args.self.now.elements) (g.E.HoldsColumns.columns c.encode_each.new.elements) (λ some. absurd (omega arith))
    c.args.self.now.fits (rw c.as_slice.ensures at c.in_ok-encode_each.ensures.joined)
