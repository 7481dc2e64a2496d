-- The next length, which is within the limit, and so many elements.
use Rattle.std.proofs.Common.{◌≡◌, ◌∷◌, ◌≤◌, All, refl, sym, subst, arith}
use Rattle.std.proofs.lemmas.List.Elements.{All-head, All-rest}
use Rattle.bitcode_coder.specs.Length.{lengths_left}
use Rattle.bitcode_coder.specs.Coder.{TakesEach}
use Rattle.bitcode_coder.proofs.TakingLemmas.{takes_none, takes_one_more, taken_and_left}
use Rattle.bitcode_parts.proofs.ListLemmas.{takes_list, enough_elements}
use Rattle.bitcode_parts.proofs.fixed_capacity.ArrayVecDecoderDecoderArrayVec.decode.Goals as goal

pub invariant_of-self : goal.invariant_of-self
invariant_of-self g c = record {
  capped = All-rest (λ n. n ≤ g.row.N) c.decode-count.result (lengths_left c.decode-count.new.self) (lengths_left c.args.self.now.lengths)
      c.decode-count.ensures.taken c.args.self.now.capped;
}

pub loop-made-init : goal.loop-made-init
loop-made-init g c = record { each = takes_none g.T.Shaped.data.makes (g.D.HoldsData.held c.args.self.now.elements) c.new-vec.result.items c.new-vec.ensures; lengths = refl }

pub decode-requires : goal.decode-requires
decode-requires g c =
    let held = g.D.HoldsData.held c.args.self.now.elements in
    let left = g.D.HoldsData.held c.loop-made.self.elements in
    let old = lengths_left c.args.self.now.lengths in
    let new = lengths_left c.decode-count.new.self in
    let enough = enough_elements c.decode-count.result old new held c.decode-count.ensures.taken c.requires in
    let taken = taken_and_left g.T.Shaped.data.makes c.loop-made._made held left c.loop-made.vec.items c.loop-made.invariant.each in
    omega (arith, enough, taken, c.loop-made-test.true)

pub push-requires : goal.push-requires
push-requires g c =
    let new = lengths_left c.decode-count.new.self in
    let within =
    All-head (λ n. n ≤ g.row.N) c.decode-count.result new (subst (All (λ n. n ≤ g.row.N)) c.decode-count.ensures.taken c.args.self.now.capped) in
    (omega arith, omega (arith, within, c.loop-made.invariant.each.size))

pub loop-made-preserved : goal.loop-made-preserved
loop-made-preserved g c =
    let held = g.D.HoldsData.held c.args.self.now.elements in
    let left = g.D.HoldsData.held c.loop-made.self.elements in
    let less = g.D.HoldsData.held c.decode.new.self in
    record {
      each =
          takes_one_more g.T.Shaped.data.makes c.loop-made._made held left less c.loop-made.vec.items c.push.new.self.items c.in_ok-decode.field-0
          c.loop-made.invariant.each c.in_ok-decode.ensures.made c.push.ensures.items;
      lengths = c.loop-made.invariant.lengths;
    }

pub returns-clause-made : goal.returns-clause-made
returns-clause-made g c =
    let makes = g.T.Shaped.data.makes in
    let count = c.decode-count.result in
    let old = lengths_left c.args.self.now.lengths in
    let new = lengths_left c.loop-made.self.lengths in
    let held = g.D.HoldsData.held c.args.self.now.elements in
    let left = g.D.HoldsData.held c.loop-made.self.elements in
    let vec = c.loop-made.vec in
    takes_list makes (λ v. v.items) vec count old new held left (subst (λ ns. old ≡ count ∷ ns) (sym c.loop-made.invariant.lengths) c.decode-count.ensures.taken)
    (subst (λ n. TakesEach makes n vec.items held left) (omega (arith, c.loop-made.auto._made-end, c.loop-made-test.false)) c.loop-made.invariant.each)
