use Rattle.std.proofs.Common.{◌≡◌, ◌+◌, ◌≤◌, ◌++◌, All, length, drop, map}
use Rattle.std.specs.Prelude.{IsUtf8, vec_len, vec_capacity}
use Rattle.bitcode_coder.specs.Cutting.{cut}
use Rattle.bitcode_coder.proofs.str.decoder.push_texts.Given as goal

abbrev pub invariant-loop-place : goal.invariant-loop-place
invariant-loop-place l = record {
  joined : map (λ t. t.now) l.texts.items ++ cut (drop l.place l.lengths) l.rest ≡ map (λ t. t.now) l.initial.texts.items ++ cut l.lengths l.initial.rest;
  left : l.count ≤ l.place + length (cut (drop l.place l.lengths) l.rest);
  utf8 : All IsUtf8 (cut (drop l.place l.lengths) l.rest);
  size : vec_len l.texts ≡ vec_len l.initial.texts + l.place;
  room : vec_len l.initial.texts + l.count ≤ vec_capacity l.texts;
}
