-- Texts of more than 64 bytes are written behind those before them.
use Rattle.std.proofs.Common.{◌≡◌, ◌-◌, length, take, drop, arith}
use Rattle.std.proofs.lemmas.List.{length-drop, take_all}
use Rattle.bitcode_coder.specs.WrittenTexts.{written_texts}
use Rattle.bitcode_coder.proofs.PushedTextLemmas.{texts_behind}
use Rattle.bitcode_coder.proofs.str.encoder.StrEncoder.encode_longer.Goals as goal

pub returns-clause-written : goal.returns-clause-written
returns-clause-written g c =
    let items = c.args.items.now in
    let some = c.in_ok-some.some in
    let behind : take (length items - some) (drop some items) ≡ drop some items =
    take_all (length items - some) (drop some items) (omega (arith, length-drop some items)) in
    texts_behind g.P.Shaped.data.lists (g.W.Part.of c.args.which.now) items (written_texts c.args.self.now) (written_texts c.encode_up_to.new.self)
    (written_texts c.encode_long.new.self) some c.in_ok-long.long _ behind c.in_ok-some.ensures.written c.in_ok-long.ensures.written
