-- What values hold that are made of others.
use Rattle.std.proofs.Common.{Box, Global, ◌≡◌, ℕ, ◌/◌, zero, suc, ◌<◌, ◌*◌, ◌^◌, leb, Option, Some, None, List, [], ◌∷◌, ◌++◌, length, take, drop, map, sum, replicate, arith, length-append, ◌+◌, refl, sym, ap, ap₂, subst, ◌∙◌, ⊎_elim}
use Rattle.std.specs.List.{AllZip}
use Rattle.std.proofs.lemmas.Bool.{cond-true, cond-false, cases_Bool}
use Rattle.bitcode_columns.specs.Reading.{Reads}
use Rattle.bitcode_shapes.specs.Datum.{Datum, list, pair, data_of}
use Rattle.bitcode_shapes.specs.Shape.{Shape, seq_shape, map_shape, array_shape, pair_shape}
use Rattle.bitcode_coder.specs.Cutting.{cut}
use Rattle.bitcode_coder.specs.LengthColumn.{SpellsLengths}
use Rattle.bitcode_parts.specs.Lists.{lists_of}
use Rattle.bitcode_parts.proofs.ArrayReadingLemmas.{reads_arrays}
use Rattle.bitcode_parts.proofs.ListLemmas.{reads_sequence}
use Rattle.bitcode_derive.proofs.MapReadingLemmas.{reads_map}
use Rattle.bitcode_tuples.specs.Pairs.{pairs_of}
use Rattle.bitcode_tuples.proofs.ReadingLemmas.{reads_pairs}
use Rattle.bitcode_schema.specs.Forms.{Content, changed, both, list_content, fields_content, fields_datum, leaf_content, span_contents}
use Rattle.bitcode_schema.specs.Leaves.{int_leaf}
use Rattle.bitcode_schema.specs.declared.schema.IntKind.TheVariants as int
use Rattle.bitcode_schema.specs.Making.{MakesData, optional}
use Rattle.bitcode_schema.specs.Views.{Hold, under, fields_of, boxed, option_held, option_of}
use Rattle.std.proofs.Math.Seq.{take-append_seam, drop-append_seam, take-length}
use Rattle.bitcode_schema.specs.Parts.{row_content}
use Rattle.bitcode_schema.proofs.RowLemmas.{fields_size, whole_row, rows_pair}
use Rattle.bitcode_schema.proofs.HoldLemmas.{hold_length, hold_map, hold_under, hold_same, list_held}
use Rattle.bitcode_untyped.specs.declared.value.Value.{Value}
use Rattle.bitcode_untyped.specs.declared.value.Value.TheOpen.{Value-F}
use Rattle.bitcode_untyped.specs.declared.value.Value.TheVariants as value
use Rattle.bitcode_untyped.specs.declared.value.Value.TheViews.{out-roll-Value}

-- ---- each of one of the others

module _ {A B : Type 0} (P : B → A → Type 0) (content : A → Option Datum) (other : B → Option Datum)
    (gives : (b : B) (a : A) (d : Datum) → P b a → content a ≡ Some d → other b ≡ Some d) where
  hold_through : (bs : List B) (xs : List A) (ds : List Datum) → AllZip P bs xs → Hold content xs ds → Hold other bs ds
  hold_through [] [] [] each h = tt
  hold_through [] [] (d ∷ ds) each h = absurd h
  hold_through [] (x ∷ xs) ds each h = absurd each
  hold_through (b ∷ bs) [] ds each h = absurd each
  hold_through (b ∷ bs) (x ∷ xs) [] each h = absurd h
  hold_through (b ∷ bs) (x ∷ xs) (d ∷ ds) each h = (gives b x d each.0 h.0, hold_through bs xs ds each.1 h.1)

  pub makes_through : (s : Shape) (k : ℕ) (old new : List ℕ) (bs : List B) (xs : List A) → AllZip P bs xs → MakesData s content k old new xs
      → MakesData s other k old new bs
  makes_through s k old new bs xs each m = record { found = m.found; read = m.read; made = hold_through bs xs m.found each m.made }

-- the same contents and shape, otherwise said
pub makes_as : {A : Type 0} (content other : A → Option Datum) → ((a : A) → content a ≡ other a) → (s t : Shape) → s ≡ t → (k : ℕ) (old new : List ℕ) (xs : List A)
    → MakesData s content k old new xs → MakesData t other k old new xs
makes_as content other same s t is k old new xs m =
    subst (λ u. MakesData u other k old new xs) is (record { found = m.found; read = m.read; made = hold_same content other same xs m.found m.made })

-- ---- pieces

module _ {A : Type 0} (content : A → Option Datum) where
  hold_take : (n : ℕ) (xs : List A) (ds : List Datum) → Hold content xs ds → Hold content (take n xs) (take n ds)
  hold_take zero xs ds h = tt
  hold_take (suc n) [] [] h = tt
  hold_take (suc n) [] (d ∷ ds) h = absurd h
  hold_take (suc n) (x ∷ xs) [] h = absurd h
  hold_take (suc n) (x ∷ xs) (d ∷ ds) h = (h.0, hold_take n xs ds h.1)

  hold_drop : (n : ℕ) (xs : List A) (ds : List Datum) → Hold content xs ds → Hold content (drop n xs) (drop n ds)
  hold_drop zero xs ds h = h
  hold_drop (suc n) [] [] h = tt
  hold_drop (suc n) [] (d ∷ ds) h = absurd h
  hold_drop (suc n) (x ∷ xs) [] h = absurd h
  hold_drop (suc n) (x ∷ xs) (d ∷ ds) h = hold_drop n xs ds h.1

  pub pieces_held : (ns : List ℕ) (xs : List A) (ds : List Datum) → Hold content xs ds → Hold (list_content content) (cut ns xs) (lists_of ns ds)
  pieces_held [] xs ds h = tt
  pieces_held (n ∷ ns) xs ds h =
      let same : leb n (length xs) ≡ leb n (length ds) = ap (leb n) (hold_length content xs ds h) in
      let lists : List (List A) → List (List Datum) → Type 0 = λ pieces parts. Hold (list_content content) pieces (map (λ es. list (data_of es)) parts) in
      ⊎_elim
      (λ is. subst (λ pieces. lists pieces (cut (n ∷ ns) ds)) (sym (cond-true (leb n (length xs)) _ _ is))
      (subst (lists (take n xs ∷ cut ns (drop n xs))) (sym (cond-true (leb n (length ds)) _ _ (sym same ∙ is)))
      (list_held content (take n xs) (take n ds) (hold_take n xs ds h), pieces_held ns (drop n xs) (drop n ds) (hold_drop n xs ds h))))
      (λ not. subst (λ pieces. lists pieces (cut (n ∷ ns) ds)) (sym (cond-false (leb n (length xs)) _ _ not))
      (subst (lists []) (sym (cond-false (leb n (length ds)) _ _ (sym same ∙ not))) tt))
      (cases_Bool (leb n (length xs)))

  module _ (view : Value → Option (List A)) (s : Shape) (k : ℕ) (old new : List ℕ) (xs : List A) (values : List Value) where
    pub makes_lists : (capacity : Option ℕ) (ns middle : List ℕ) → Reads (SpellsLengths capacity) k old ns middle → MakesData s content (sum ns) middle new xs
        → Hold view values (cut ns xs) → MakesData (seq_shape capacity s) (λ v. under (view v) (list_content content)) k old new values
    makes_lists capacity ns middle lengths m h = record {
      found = lists_of ns m.found;
      read = reads_sequence capacity s k new m.found lengths m.read;
      made = hold_under view (list_content content) values (cut ns xs) (lists_of ns m.found) h (pieces_held ns xs m.found m.made);
    }

    pub makes_arrays : (size : ℕ) → k * size < 2 ^ 64 → MakesData s content (k * size) old new xs → Hold view values (cut (replicate k size) xs)
        → MakesData (array_shape size s) (λ v. under (view v) (list_content content)) k old new values
    makes_arrays size few m h = record {
      found = lists_of (replicate k size) m.found;
      read = reads_arrays size s k old new m.found few m.read;
      made = hold_under view (list_content content) values (cut (replicate k size) xs) (lists_of (replicate k size) m.found) h
          (pieces_held (replicate k size) xs m.found m.made);
    }

-- ---- pairs

pairs_held : {A B : Type 0} (p : A → Option Datum) (q : B → Option Datum) (pairs : List (A × B)) (ds es : List Datum)
    → Hold (λ x. p x.0) pairs ds → Hold (λ x. q x.1) pairs es → Hold (λ x. both pair (p x.0) (q x.1)) pairs (pairs_of ds es)
pairs_held p q [] [] es h k = tt
pairs_held p q [] (d ∷ ds) es h k = absurd h
pairs_held p q (x ∷ pairs) [] es h k = absurd h
pairs_held p q (x ∷ pairs) (d ∷ ds) [] h k = absurd k
pairs_held p q (x ∷ pairs) (d ∷ ds) (e ∷ es) h k = (ap₂ (both pair) h.0 k.0, pairs_held p q pairs ds es h.1 k.1)

module _ {A B : Type 0} (p : A → Option Datum) (q : B → Option Datum) (s t : Shape) (k : ℕ) (old middle new : List ℕ)
    (xs : List A) (ys : List B) (first : MakesData s p k old middle xs) (second : MakesData t q k middle new ys) where
  pub same_length : length xs ≡ length ys
  same_length = hold_length p xs first.found first.made ∙ first.read.size ∙ sym second.read.size ∙ sym (hold_length q ys second.found second.made)

  pub makes_pairs : (pairs : List (A × B)) → map (λ x. x.0) pairs ≡ xs → map (λ x. x.1) pairs ≡ ys
      → MakesData (pair_shape s t) (λ x. both pair (p x.0) (q x.1)) k old new pairs
  makes_pairs pairs firsts seconds = record {
    found = pairs_of first.found second.found;
    read = reads_pairs s t k new second.found first.read second.read;
    made = pairs_held p q pairs first.found second.found
        (hold_map p (λ x. x.0) pairs first.found (subst (λ zs. Hold p zs first.found) (sym firsts) first.made))
        (hold_map q (λ x. x.1) pairs second.found (subst (λ zs. Hold q zs second.found) (sym seconds) second.made));
  }

-- ---- maps

pub makes_maps : (content : Content) (s t : Shape) (k : ℕ) (old new : List ℕ) (values : List Value)
    → MakesData (seq_shape None (pair_shape s t)) content k old new values → MakesData (map_shape s t) content k old new values
makes_maps content s t k old new values m = record { found = m.found; read = reads_map s t k old new m.found m.read; made = m.made }

-- ---- fields

-- a row of one field
pub one_row : (c : Content) (row : List Value) (v : Value) (d : Datum) → row ≡ v ∷ [] → c v ≡ Some d → fields_content (c ∷ []) row ≡ Some d
one_row c row v d is h = ap (fields_content (c ∷ [])) is ∙ ap (λ o. changed fields_datum (both (λ e es. e ∷ es) o (Some []))) h

-- two parts of a row
pub two_rows : (front back : List Content) (row first second : List Value) (d : Datum) → 1 < length (front ++ back) → length front ≡ length (front ++ back) / 2
    → row ≡ first ++ second → both pair (fields_content front first) (fields_content back second) ≡ Some d → fields_content (front ++ back) row ≡ Some d
two_rows front back row first second d some half is h =
    let whole = first ++ second in
    let each = split (fields_content front first) (fields_content back second) h in
    let long : length first ≡ length front = fields_size front first each.0 each.1.1.0 in
    let rest : length second ≡ length back = fields_size back second each.1.0 each.1.1.1 in
    let here : take (length front) whole ≡ first = ap (λ n. take n whole) (sym long) ∙ take-append_seam first second in
    let there : take (length back) (drop (0 + length front) whole) ≡ second =
    ap (take (length back)) (ap (λ n. drop n whole) (let e : 0 + length front ≡ length first = omega (arith, long) in e) ∙ drop-append_seam first second)
    ∙ ap (λ n. take n second) (sym rest) ∙ take-length second in
    let all : length row ≡ length (front ++ back) =
    ap length is ∙ (let e : length whole ≡ length (front ++ back) = omega (arith, length-append first second, length-append front back, long, rest) in e) in
    sym (whole_row (front ++ back) row all) ∙ ap (row_content (front ++ back) 0) is ∙ sym (rows_pair front back 0 whole some half)
    ∙ ap₂ (λ xs ys. both pair (fields_content front xs) (fields_content back ys)) here there ∙ h
  where
    split : (o p : Option Datum) → both pair o p ≡ Some d → (e : Datum) × ((f : Datum) × ((o ≡ Some e) × (p ≡ Some f)))
    split (Some e) (Some f) k = (e, (f, (refl, refl)))
    split (Some e) None k = cc
    split None p k = cc

-- seconds and nanoseconds
pub span_row : (whole : Value) (a b : Value) (d : Datum) → fields_of whole ≡ Some (a ∷ b ∷ [])
    → both pair (leaf_content (Some (int_leaf int.U64)) a) (leaf_content (Some (int_leaf int.U32)) b) ≡ Some d
    → under (fields_of whole) (fields_content span_contents) ≡ Some d
span_row whole a b d is h =
    ap (λ o. under o (fields_content span_contents)) is ∙ span (leaf_content (Some (int_leaf int.U64)) a) (leaf_content (Some (int_leaf int.U32)) b) h
  where
    span : (o p : Option Datum) → both pair o p ≡ Some d → changed fields_datum (both (λ e es. e ∷ es) o (both (λ e es. e ∷ es) p (Some []))) ≡ Some d
    span (Some e) (Some f) k = k
    span (Some e) None k = cc
    span None p k = cc

-- ---- options

pub option_made : (held : Option (Box Value Global)) → option_of (value.Option held) ≡ Some (boxed held)
option_made held = ap option_of (sym (value.rolls-Option held)) ∙ ap option_held (out-roll-Value (Value-F.Option held))

pub optional_some : (variant : ℕ) (payload : Value) → 0 < variant → optional variant payload ≡ Some payload
optional_some zero payload some = absurd (omega (arith, some))
optional_some (suc variant) payload some = refl

-- ---- how many

pub made_length : {A : Type 0} (content : A → Option Datum) (s : Shape) (k : ℕ) (old new : List ℕ) (xs : List A) → MakesData s content k old new xs → length xs ≡ k
made_length content s k old new xs m = hold_length content xs m.found m.made ∙ m.read.size
