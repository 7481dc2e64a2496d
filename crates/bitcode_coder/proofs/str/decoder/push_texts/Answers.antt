-- Each turn cuts the next piece off, which is a text.
use Rattle.std.proofs.Common.{◌≡◌, ℕ, ◌+◌, ◌<◌, List, ◌∷◌, length, take, drop, get_or, All, Bor, sym, ap, subst, ◌∙◌, arith}
use Rattle.std.specs.Prelude.{IsUtf8}
use Rattle.std.proofs.lemmas.List.Elements.{All-head, All-rest}
use Rattle.bitcode_coder.specs.Cutting.{cut}
use Rattle.bitcode_coder.proofs.TakenTextLemmas.{next_piece, one_text_more}
use Rattle.bitcode_coder.proofs.str.decoder.push_texts.Goals as goal

pub from_utf8_unchecked-requires : goal.from_utf8_unchecked-requires
from_utf8_unchecked-requires c =
    let ns = c.args.lengths.now in
    let i = c.loop-place.place in
    let rest = c.loop-place.rest.now in
    let n = get_or ns i 0 in
    let some : 0 < length (cut (drop i ns) rest) = omega (arith, c.loop-place.invariant.left, c.loop-place-test.true) in
    subst IsUtf8 (sym c.split_at.ensures.front)
    (All-head IsUtf8 (take n rest) (cut (drop (i + 1) ns) (drop n rest)) (subst (All IsUtf8) (next_piece ns i rest some 0) c.loop-place.invariant.utf8))

pub loop-place-preserved : goal.loop-place-preserved
loop-place-preserved c =
    let ns = c.args.lengths.now in
    let i = c.loop-place.place in
    let rest = c.loop-place.rest.now in
    let piece = take (get_or ns i 0) rest in
    let old = cut (drop i ns) rest in
    let new = cut (drop (i + 1) ns) c.split_at.result.1.now in
    let some : 0 < length old = omega (arith, c.loop-place.invariant.left, c.loop-place-test.true) in
    let taken : old ≡ piece ∷ new = next_piece ns i rest some 0 ∙ ap (λ bytes. piece ∷ cut (drop (i + 1) ns) bytes) (sym c.split_at.ensures.back) in
    record {
      joined = one_text_more (λ (t : Bor (List ℕ)). t.now) c.loop-place.texts.items c.push_reserved.new.self.items c.from_utf8_unchecked.result piece old new
          c.push_reserved.ensures.items (c.from_utf8_unchecked.ensures ∙ c.split_at.ensures.front) taken
          ∙ c.loop-place.invariant.joined;
      left = omega (arith, c.loop-place.invariant.left, ap length taken);
      utf8 = All-rest IsUtf8 piece new old taken c.loop-place.invariant.utf8;
      size = omega (arith, c.push_reserved.ensures.len, c.loop-place.invariant.size);
      room = omega (arith, c.push_reserved.ensures.capacity, c.loop-place.invariant.room);
    }

pub returns-clause-utf8 : goal.returns-clause-utf8
returns-clause-utf8 c =
    let all : c.loop-place.place ≡ c.args.count = omega arith in
    subst (λ n. All IsUtf8 (cut (drop n c.args.lengths.now) c.loop-place.rest.now)) all c.loop-place.invariant.utf8
