-- Pairs are written as all their first fields and then all their second fields.
use Rattle.std.proofs.Common.{◌≡◌, ℕ, Option, Some, None, List, [], ◌∷◌, ◌++◌, map, refl, sym, ap, ap₂, subst, ◌∙◌, append_assoc, All}
use Rattle.std.proofs.lemmas.List.Elements.{All-nil, All-cons, All-head, All-tail}
use Rattle.bitcode_shapes.specs.Datum.{Datum, pair, first_in, second_in}
use Rattle.bitcode_shapes.specs.Shape.{Shape, IsOf, IsPairOf, pair_shape}
use Rattle.bitcode_coder.specs.Columns.{CountsFit}
use Rattle.bitcode_coder.specs.Spelling.{columns_bytes}
use Rattle.bitcode_coder.specs.Transposition.{columns_of}
use Rattle.bitcode_coder.proofs.DatumLemmas.{firsts_each, seconds_each}
use Rattle.bitcode_schema.specs.Forms.{both}
use Rattle.bitcode_schema.specs.Views.{Hold}
use Rattle.bitcode_schema.specs.Writing.{Writes, HasStranger}
use Rattle.bitcode_schema.proofs.HoldLemmas.{some_same}

both_of : {A B C : Type 0} (f : A → B → C) (o : Option A) (p : Option B) (c : C) → both f o p ≡ Some c
    → (a : A) × ((b : B) × ((o ≡ Some a) × (p ≡ Some b) × (c ≡ f a b)))
both_of f (Some a) (Some b) c e = (a, (b, (refl, refl, sym (some_same e))))
both_of f (Some a) None c e = cc
both_of f None p c e = cc

module _ {A : Type 0} (p q : A → Option Datum) (s t : Shape) where
  abbrev pub paired : A → Option Datum
  paired a = both pair (p a) (q a)

  -- the data of pairs, whose fields are these
  pub record Paired (items : List A) (xs ys : List Datum) : Type 0 where
    pub pairs : List Datum
    pub held : Hold paired items pairs
    pub of_shape : All (IsPairOf (IsOf s) (IsOf t)) pairs
    pub firsts : map first_in pairs ≡ xs
    pub seconds : map second_in pairs ≡ ys

  pairing : (items : List A) (xs ys : List Datum) → Hold p items xs → Hold q items ys → All (IsOf s) xs → All (IsOf t) ys → Paired items xs ys
  pairing [] [] [] h k first second = record { pairs = []; held = tt; of_shape = All-nil (IsPairOf (IsOf s) (IsOf t)); firsts = refl; seconds = refl }
  pairing [] [] (y ∷ ys) h k first second = absurd k
  pairing [] (x ∷ xs) ys h k first second = absurd h
  pairing (a ∷ items) [] ys h k first second = absurd h
  pairing (a ∷ items) (x ∷ xs) [] h k first second = absurd k
  pairing (a ∷ items) (x ∷ xs) (y ∷ ys) h k first second =
      let rest = pairing items xs ys h.1 k.1 (All-tail (IsOf s) x xs first) (All-tail (IsOf t) y ys second) in
      record {
        pairs = pair x y ∷ rest.pairs;
        held = (ap₂ (both pair) h.0 k.0, rest.held);
        of_shape = All-cons (IsPairOf (IsOf s) (IsOf t)) (pair x y) rest.pairs
            (record { first = x; second = y; is = refl; is_first = All-head (IsOf s) x xs first; is_second = All-head (IsOf t) y ys second }) rest.of_shape;
        firsts = ap (λ ds. x ∷ ds) rest.firsts;
        seconds = ap (λ ds. y ∷ ds) rest.seconds;
      }

  firsts_held : (items : List A) (ds : List Datum) → Hold paired items ds → Hold p items (map first_in ds)
  firsts_held [] [] h = tt
  firsts_held [] (d ∷ ds) h = absurd h
  firsts_held (a ∷ items) [] h = absurd h
  firsts_held (a ∷ items) (d ∷ ds) h =
      let b = both_of pair (p a) (q a) d h.0 in (b.1.1.0 ∙ ap Some (sym (ap first_in b.1.1.2)), firsts_held items ds h.1)

  seconds_held : (items : List A) (ds : List Datum) → Hold paired items ds → Hold q items (map second_in ds)
  seconds_held [] [] h = tt
  seconds_held [] (d ∷ ds) h = absurd h
  seconds_held (a ∷ items) [] h = absurd h
  seconds_held (a ∷ items) (d ∷ ds) h =
      let b = both_of pair (p a) (q a) d h.0 in (b.1.1.1 ∙ ap Some (sym (ap second_in b.1.1.2)), seconds_held items ds h.1)

  pub writes_pairs : (items : List A) (old middle new : List ℕ) → Writes p s items old middle → Writes q t items middle new
      → Writes paired (pair_shape s t) items old new
  writes_pairs items old middle new w v =
      let both_are = pairing items w.contents v.contents w.are.held v.are.held w.are.of_shape v.are.of_shape in
      record {
        contents = both_are.pairs;
        are = record { held = both_are.held; of_shape = both_are.of_shape };
        counts = (subst (λ ds. CountsFit (columns_of s ds)) (sym both_are.firsts) w.counts, subst (λ ds. CountsFit (columns_of t ds)) (sym both_are.seconds) v.counts);
        written = v.written ∙ ap (λ bytes. bytes ++ columns_bytes (columns_of t v.contents)) w.written
            ∙ append_assoc old (columns_bytes (columns_of s w.contents)) (columns_bytes (columns_of t v.contents))
            ∙ ap (λ bytes. old ++ bytes)
            (ap₂ (λ a b. a ++ b) (ap (λ ds. columns_bytes (columns_of s ds)) (sym both_are.firsts)) (ap (λ ds. columns_bytes (columns_of t ds)) (sym both_are.seconds)));
      }

  pub stranger_first : (items : List A) → HasStranger p s items → HasStranger paired (pair_shape s t) items
  stranger_first items stranger ds are =
      stranger (map first_in ds) (record { held = firsts_held items ds are.held; of_shape = firsts_each (IsOf s) (IsOf t) ds are.of_shape })

  pub stranger_second : (items : List A) → HasStranger q t items → HasStranger paired (pair_shape s t) items
  stranger_second items stranger ds are =
      stranger (map second_in ds) (record { held = seconds_held items ds are.held; of_shape = seconds_each (IsOf s) (IsOf t) ds are.of_shape })
