-- The values are made of the texts that were taken, either way.
use Rattle.std.proofs.Common.{◌≡◌, ℕ, ◌≤◌, List, ◌++◌, length, drop, map, Bor, sym, ap, ap₂, subst, ◌∙◌, arith}
use Rattle.std.specs.Prelude.{IsUtf8}
use Rattle.std.proofs.lemmas.List.{length-map}
use Rattle.std.proofs.lemmas.List.Elements.{All-same}
use Rattle.bitcode_memory.specs.Fast.{slice_rest}
use Rattle.bitcode_shapes.specs.Datum.{text}
use Rattle.bitcode_coder.specs.Cutting.{cut}
use Rattle.bitcode_coder.specs.Length.{lengths_left}
use Rattle.bitcode_coder.proofs.CuttingLemmas.{length-cut}
use Rattle.bitcode_coder.proofs.TakenTextLemmas.{takes_texts}
use Rattle.bitcode_coder.proofs.str.decoder.StrDecoderDecoderRefStr.decode_many.Goals as goal

pub returns-in_default-clause-made : goal.returns-in_default-clause-made
returns-in_default-clause-made g c =
    let old = cut (lengths_left c.args.self.now.lengths) (slice_rest c.args.self.now.bytes) in
    let new = cut (lengths_left c.take_each.new.self.lengths) (slice_rest c.take_each.new.self.bytes) in
    takes_texts (λ (t : Bor (List ℕ)). t.now) c.args.count old new c.take_each.result.items
    (omega (arith, c.take_each.result.ok.0, c.take_each.ensures.size, c.in_ok-texts.ensures.len))
    (c.take_each.ensures.joined ∙ ap (λ ts. map (λ (t : Bor (List ℕ)). t.now) ts ++ old) c.in_ok-texts.ensures.items)

pub push_texts-texts-requires-clause-utf8 : goal.push_texts-texts-requires-clause-utf8
push_texts-texts-requires-clause-utf8 g c =
    All-same IsUtf8 (cut c.in-Some.lengths.now c.as_slice.result.now) (cut (lengths_left c.args.self.now.lengths) (slice_rest c.args.self.now.bytes))
    (ap₂ cut c.in-Some.ensures.lengths c.as_slice.ensures) c.args.self.now.utf8

pub pass_short-requires-clause-left : goal.pass_short-requires-clause-left
pass_short-requires-clause-left g c =
    let ns = lengths_left c.args.self.now.lengths in
    let bytes = slice_rest c.args.self.now.bytes in
    let left : c.args.count ≤ length (cut ns bytes) = subst (λ n. c.args.count ≤ n) (length-map (cut ns bytes) text) c.requires in
    omega (arith, left, length-cut ns bytes)

pub invariant_of-self-2 : goal.invariant_of-self-2
invariant_of-self-2 g c = record {
  utf8 =
      let behind : lengths_left c.pass_short.new.self ≡ drop c.args.count c.in-Some.lengths.now =
      c.pass_short.ensures ∙ ap (drop c.args.count) (sym c.in-Some.ensures.lengths) in
      All-same IsUtf8 (cut (lengths_left c.pass_short.new.self) (slice_rest c.from-self.result)) (cut (drop c.args.count c.in-Some.lengths.now) c.push_texts-texts.result.1.now)
      (ap₂ cut behind c.from-self.ensures) c.push_texts-texts.ensures.utf8;
}

pub returns-clause-made : goal.returns-clause-made
returns-clause-made g c =
    let old = cut (lengths_left c.args.self.now.lengths) (slice_rest c.args.self.now.bytes) in
    let new = cut (lengths_left c.pass_short.new.self) (slice_rest c.from-self.result) in
    let behind : lengths_left c.pass_short.new.self ≡ drop c.args.count c.in-Some.lengths.now =
    c.pass_short.ensures ∙ ap (drop c.args.count) (sym c.in-Some.ensures.lengths) in
    let items = c.push_texts-texts.result.0.items in
    let texts = map (λ (t : Bor (List ℕ)). t.now) items in
    takes_texts (λ (t : Bor (List ℕ)). t.now) c.args.count old new items
    (omega (arith, c.push_texts-texts.result.0.ok.0, c.push_texts-texts.ensures.size, c.in_ok-texts.ensures.len))
    (ap (λ left. texts ++ left) (ap₂ cut behind c.from-self.ensures) ∙ c.push_texts-texts.ensures.joined
    ∙ ap (λ ts. map (λ (t : Bor (List ℕ)). t.now) ts ++ cut c.in-Some.lengths.now c.as_slice.result.now) c.in_ok-texts.ensures.items
    ∙ ap₂ cut c.in-Some.ensures.lengths c.as_slice.ensures)
