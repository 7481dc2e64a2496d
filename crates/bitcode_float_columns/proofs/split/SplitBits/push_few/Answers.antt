-- One float more.
use Rattle.std.proofs.Common.{◌≡◌, ◌+◌, ◌++◌, ◌∷◌, [], suc, map, take, drop, sym, ap, ◌∙◌, append_assoc, arith}
use Rattle.std.specs.Prelude.{from_bits}
use Rattle.std.specs.Float.{binary32}
use Rattle.bitcode_float_columns.specs.Split.{split_rest}
use Rattle.bitcode_float_columns.proofs.SplitLemmas.{taken_next}
use Rattle.bitcode_float_columns.proofs.split.SplitBits.push_few.Goals as goal

pub loop-taken-preserved : goal.loop-taken-preserved
loop-taken-preserved c =
    let was = c.loop-taken.invariant in
    let i = c.loop-taken._taken in
    let all = split_rest c.args.self.now in
    let made = map (λ b. from_bits binary32 b) (take i all) in
    let next = taken_next (λ b. from_bits binary32 b) i all (split_rest c.next_unchecked.new.self) c.next_unchecked.result
    (sym was.left ∙ c.next_unchecked.ensures) in
    let one : i + 1 ≡ suc i = omega arith in
    record {
      made =
          c.push_reserved.ensures.items ∙ ap (λ xs. xs ++ (c.f32_from_bits_with_nan.result ∷ [])) was.made
          ∙ append_assoc c.args.floats.items made (c.f32_from_bits_with_nan.result ∷ [])
          ∙ ap (λ x. c.args.floats.items ++ (made ++ (x ∷ []))) c.f32_from_bits_with_nan.ensures
          ∙ ap (λ xs. c.args.floats.items ++ xs) (sym next.0 ∙ ap (λ n. map (λ b. from_bits binary32 b) (take n all)) (sym one));
      left = sym next.1 ∙ ap (λ n. drop n all) (sym one);
      len = omega (arith, c.push_reserved.ensures.len, was.len);
      capacity = c.push_reserved.ensures.capacity ∙ was.capacity;
    }
