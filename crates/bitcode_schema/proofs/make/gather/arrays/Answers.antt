-- Each turn makes one array.
use Rattle.std.proofs.Common.{◌≡◌, ℕ, suc, ◌+◌, ◌-◌, ◌≤◌, ◌∷◌, sym, ap, subst, ◌∙◌, arith, length, length-append, replicate, Some, List}
use Rattle.std.specs.Prelude.{sum}
use Rattle.std.proofs.lemmas.List.{length-replicate}
use Rattle.std.proofs.lemmas.List.Folds.{sum_by-replicate}
use Rattle.bitcode_coder.proofs.LengthPartLemmas.{taken_from}
use Rattle.bitcode_coder.specs.Cutting.{cut}
use Rattle.bitcode_schema.specs.Views.{elements_of}
use Rattle.bitcode_schema.proofs.CutLemmas.{MadeTo, made_none, pieces_next, pieces_all}
use Rattle.bitcode_untyped.specs.declared.value.Value.{Value}
use Rattle.bitcode_schema.proofs.make.gather.arrays.Goals as goal

abbrev holds : Value → List Value → Type 0
holds value one = elements_of value ≡ Some one

one_less : (k made size : ℕ) → made + 1 ≤ k → replicate (k - made) size ≡ size ∷ replicate (k - (made + 1)) size
one_less k made size some = ap (λ n. replicate n size) (let e : k - made ≡ suc (k - (made + 1)) = omega (arith, some) in e)

all_left : (k : ℕ) → k ≡ k - 0
all_left k = omega arith

pub loop-made-init : goal.loop-made-init
loop-made-init c =
    let k = c.args.k in
    let size = c.args.size in
    record {
      each = subst (λ n. MadeTo holds (cut (replicate k size) c.args.elements.items) (cut (replicate n size) c.args.elements.items) c.in_ok-values.values.items) (all_left k)
          (made_none holds (cut (replicate k size) c.args.elements.items) c.in_ok-values.values.items c.in_ok-values.ensures.items);
      enough = ap (λ n. sum (replicate n size)) (sym (all_left k)) ∙ sum_by-replicate (λ x. x) k size ∙ c.requires;
      len = c.in_ok-values.ensures.len;
      room = c.in_ok-values.ensures.capacity;
    }

pub take-requires : goal.take-requires
take-requires c =
    let k = c.args.k in
    let some : c.loop-made._made + 1 ≤ k = omega (arith, c.loop-made-test.true) in
    let one = taken_from (replicate (k - c.loop-made._made) c.args.size) c.args.size (replicate (k - (c.loop-made._made + 1)) c.args.size)
    (one_less k c.loop-made._made c.args.size some) in
    omega (arith, one.0, c.loop-made.invariant.enough)

pub loop-made-preserved : goal.loop-made-preserved
loop-made-preserved c =
    let k = c.args.k in
    let size = c.args.size in
    let some : c.loop-made._made + 1 ≤ k = omega (arith, c.loop-made-test.true) in
    let left = replicate (k - (c.loop-made._made + 1)) size in
    let front = c.in_ok-array.array in
    let taken = c.in_ok-array.ensures.taken in
    let long = c.in_ok-array.ensures.size in
    let lengths = one_less k c.loop-made._made size some in
    let one = taken_from (replicate (k - c.loop-made._made) size) size left lengths in
    record {
      each =
          pieces_next holds (replicate k size) c.args.elements.items size (replicate (k - c.loop-made._made) size) left
          c.loop-made.elements.items front.items c.take.new.items.items c.loop-made.values.items c.push_back_reserved.new.self.items c.whole.result
          c.loop-made.invariant.each lengths taken long c.whole.ensures c.push_back_reserved.ensures.items;
      enough = omega (arith, c.loop-made.invariant.enough, one.0, ap length taken, length-append front.items c.take.new.items.items, long);
      len = omega (arith, c.push_back_reserved.ensures.len, c.loop-made.invariant.len);
      room = omega (arith, c.push_back_reserved.ensures.capacity, c.loop-made.invariant.room);
    }

pub returns : goal.returns
returns c = record {
  made =
      pieces_all holds (replicate c.args.k c.args.size) c.args.elements.items (replicate (c.args.k - c.loop-made._made) c.args.size) c.loop-made.elements.items c.loop-made.values.items
      c.loop-made.invariant.each (length-replicate _ _ ∙ (let e : c.args.k - c.loop-made._made ≡ 0 = omega (arith, c.loop-made-test.false) in e));
}
