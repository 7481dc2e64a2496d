-- One more of several values.
use Rattle.std.proofs.Common.{◌≡◌, ℕ, zero, suc, arith, ◌+◌, ◌<◌, ◌≤◌, Option, Some, None, List, [], ◌∷◌, ◌++◌, length, map, take, get_or, slice_get, false, All, subst, sym, ap, ◌∙◌}
use Rattle.std.proofs.Math.ListN.{get_or-map}
use Rattle.std.proofs.Math.Seq.{take-length}
use Rattle.std.proofs.lemmas.List.{map-append, length-map}
use Rattle.std.proofs.lemmas.Bool.{ltb-false}
use Rattle.std.proofs.lemmas.List.Elements.{All-push}
use Rattle.std.proofs.lemmas.Option.{slice_get_past}
use lib.Dec.{ltb}
use Rattle.bitcode_coder.proofs.EachLemmas.{parts_more}
use Rattle.bitcode_schema.specs.Views.{Hold, HasOther}
use Rattle.bitcode_schema.proofs.HoldLemmas.{hold-append}

module _ {R A B : Type 0} (view : A → Option B) (seen : R → A) (values : List R) (i : ℕ) (value : R) (here : i < length values) (is : value ≡ get_or values i value) where
  pub more_held : {S : Type 0} (gives : S → B) (held : List S) (one : S) → Hold view (map seen (take i values)) (map gives held) → view (seen value) ≡ Some (gives one)
      → Hold view (map seen (take (i + 1) values)) (map gives (held ++ one ∷ []))
  more_held gives held one before now =
      subst (λ vs. Hold view vs (map gives (held ++ one ∷ []))) (sym (parts_more seen values i value here is))
      (subst (Hold view (map seen (take i values) ++ seen value ∷ [])) (sym (map-append gives held (one ∷ [])))
      (hold-append view (map seen (take i values)) (seen value ∷ []) (map gives held) (gives one ∷ []) before (now, tt)))

  pub other_here : view (seen value) ≡ None → HasOther view (map seen values)
  other_here none held h = away values i here is held h
    where
      away : (rs : List R) (j : ℕ) → j < length rs → value ≡ get_or rs j value → (us : List B) → Hold view (map seen rs) us → ⊥
      away [] j there same us k = absurd (omega (arith, there))
      away (r ∷ rs) zero there same [] k = k
      away (r ∷ rs) zero there same (u ∷ us) k =
          let gone : view (seen r) ≡ None = subst (λ x. view (seen x) ≡ None) same none in
          let never : None ≡ Some u = sym gone ∙ k.0 in cc
      away (r ∷ rs) (suc j) there same [] k = k
      away (r ∷ rs) (suc j) there same (u ∷ us) k = away rs j (let h : suc j < suc (length rs) = there in omega arith) same us k.1

-- what holds of each of several values
module _ {R B : Type 0} (P : B → Type 0) (seen : R → B) (values : List R) where
  module _ (i : ℕ) (value : R) (here : i < length values) (is : value ≡ get_or values i value) where
    pub more_all : All P (map seen (take i values)) → P (seen value) → All P (map seen (take (i + 1) values))
    more_all before one = subst (All P) (sym (parts_more seen values i value here is)) (All-push P (map seen (take i values)) (seen value) before one)

    pub not_all : (P (seen value) → ⊥) → All P (map seen values) → ⊥
    not_all away all =
        away (subst P (get_or-map seen values i value ∙ ap seen (sym is)) (all i (seen value) (omega (arith, here, length-map values seen))))

  pub all_values : (i : ℕ) → length values ≤ i → i ≤ length values → All P (map seen (take i values)) → All P (map seen values)
  all_values i most least all = subst (λ rs. All P (map seen rs)) (ap (λ n. take n values) (let e : i ≡ length values = omega (arith, most, least) in e) ∙ take-length values) all

pub none_there : {A : Type 0} (xs : List A) (i : ℕ) → ltb i (length xs) ≡ false → slice_get xs i ≡ None
none_there xs i past = slice_get_past xs i (omega (arith, ltb-false i (length xs) past))
