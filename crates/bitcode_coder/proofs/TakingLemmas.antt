-- Values that are made one by one.
use Rattle.std.proofs.Common.{◌≡◌, ℕ, ◌+◌, ◌≤◌, List, [], ◌∷◌, ◌++◌, length, map, take, drop, refl, sym, ◌∙◌, ap, subst, append_assoc, arith, length-append}
use Rattle.std.proofs.lemmas.List.{length-map, length-take-le, map-append, take-append-drop}
use Rattle.std.specs.List.{AllZip}
use Rattle.bitcode_shapes.specs.Datum.{Datum}
use Rattle.bitcode_shapes.specs.LawfulLists.{zip_length}
use Rattle.bitcode_coder.specs.Coder.{TakesDatum, TakesEach}
use Rattle.bitcode_coder.proofs.EachLemmas.{AllZip-append}

module _ {T : Type 0} (makes : Datum → T → Type 0) where
  pub takes_none : (old : List Datum) (items : List T) → items ≡ [] → TakesEach makes 0 items old old
  takes_none old items none = record { size = ap length none; parts = []; taken = refl; made = subst (AllZip makes []) (sym none) tt }

  -- one value more was made
  pub takes_one_more : (count : ℕ) (old now new : List Datum) (before after : List T) (item : T) → TakesEach makes count before old now
      → TakesDatum makes item now new → after ≡ before ++ item ∷ [] → TakesEach makes (count + 1) after old new
  takes_one_more count old now new before after item front one grown = record {
    size = omega (arith, front.size, ap length grown, length-append before (item ∷ []));
    parts = front.parts ++ one.datum ∷ [];
    taken = front.taken ∙ ap (λ ds. front.parts ++ ds) one.taken ∙ sym (append_assoc front.parts (one.datum ∷ []) new);
    made =
        subst (λ items. AllZip makes (front.parts ++ one.datum ∷ []) items) (sym grown)
        (AllZip-append makes front.parts (one.datum ∷ []) before (item ∷ []) front.made (one.made, tt));
  }

  -- what was taken and what is left
  pub taken_and_left : (count : ℕ) (old now : List Datum) (items : List T) → TakesEach makes count items old now → count + length now ≡ length old
  taken_and_left count old now items front =
      omega (arith, front.size, zip_length makes front.parts items front.made, ap length front.taken, length-append front.parts now)

  -- the data behind those of a front of the entries are left
  pub takes_front : {Entry : Type 0} (datum_of : Entry → Datum) (count : ℕ) (entries front left : List Entry) (items : List T)
      → count ≤ length (map datum_of entries)
      → front ≡ take count entries → left ≡ drop count entries → AllZip makes (map datum_of front) items
      → TakesEach makes count items (map datum_of entries) (map datum_of left)
  takes_front datum_of count entries front left items enough is behind each = record {
    size =
        sym (zip_length makes (map datum_of front) items each) ∙ length-map front datum_of ∙ ap length is
        ∙ length-take-le count entries (subst (λ n. count ≤ n) (length-map entries datum_of) enough);
    parts = map datum_of front;
    taken =
        ap (map datum_of) (sym (take-append-drop count entries)) ∙ map-append datum_of (take count entries) (drop count entries)
        ∙ ap (λ es. map datum_of es ++ map datum_of (drop count entries)) (sym is) ∙ ap (λ es. map datum_of front ++ map datum_of es) (sym behind);
    made = each;
  }

  -- each item is made of its datum
  pub made_each : (datum_of : T → Datum) → ((t : T) → makes (datum_of t) t) → (ts : List T) → AllZip makes (map datum_of ts) ts
  made_each datum_of made [] = tt
  made_each datum_of made (t ∷ ts) = (made t, made_each datum_of made ts)
