-- The next length, and so many elements, of which the value is made.
use Rattle.std.proofs.lemmas.Result.{IfOk-weaker}
use Rattle.bitcode_coder.specs.Length.{lengths_left}
use Rattle.bitcode_parts.specs.Lists.{lists_of}
use Rattle.bitcode_parts.proofs.ListLemmas.{takes_list, takes_made}
use Rattle.bitcode_parts.proofs.lists.vec.VecDecoder.decode_as.Goals as goal

pub returns-clause-made : goal.returns-clause-made
returns-clause-made g c =
    let makes = g.C.Part.Shaped.data.makes in
    let elements = c.in_ok-elements.elements.items in
    let old = lengths_left c.args.self.now.lengths in
    let new = lengths_left c.decode-count.new.self in
    let held = g.D.HoldsData.held c.args.self.now.elements in
    let left = g.D.HoldsData.held c.decode_each.new.elements in
    IfOk-weaker c.from_elements.result _ _ (λ t whole.
    takes_made g.C.Shaped.data.makes makes t elements (lists_of old held) (lists_of new left) whole
    (takes_list makes (λ ts. ts) elements c.decode-count.result old new held left c.decode-count.ensures.taken c.in_ok-elements.ensures.made))
    c.from_elements.ensures.made
