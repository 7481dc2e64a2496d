-- Values of one case are written as the entries of one column.
use Rattle.std.proofs.Common.{◌≡◌, inl, inr, ℕ, zero, suc, Bool, true, false, cond, Option, Some, None, List, [], ◌∷◌, ◌++◌, slice_get, refl, sym, ap, subst, ◌∙◌}
use Rattle.std.proofs.lemmas.List.Elements.{All-nil, All-cons, All-append}
use Rattle.bitcode_memory.specs.declared.error.Reason.{Reason}
use Rattle.bitcode_shapes.specs.Datum.{Datum}
use Rattle.bitcode_shapes.specs.Shape.{Shape, IsOf}
use Rattle.bitcode_coder.specs.Coder.{written_columns, JoinsListing, OverflowsWithListing, IsWritingRefusal}
use Rattle.bitcode_coder.specs.Columns.{Columns, beside, emptied, plain, CountsFit}
use Rattle.bitcode_coder.specs.Spelling.{columns_bytes}
use Rattle.bitcode_coder.specs.Transposition.{columns_of}
use Rattle.bitcode_coder.proofs.TranspositionLemmas.{columns_of-append, beside_assoc, plain-beside}
use Rattle.bitcode_untyped.specs.Leaves.{Leaf, Entry, is_of, entry_of}
use Rattle.bitcode_untyped.proofs.LeafLemmas.{is_leaf}
use Rattle.bitcode_untyped.specs.declared.value.Value.{Value, out-Value}
use Rattle.bitcode_schema.specs.Cases.{IsEntryAs, CaseLaws}
use Rattle.bitcode_schema.specs.Forms.{leaf_content}
use Rattle.bitcode_schema.specs.Leaves.{datum_in}
use Rattle.bitcode_schema.specs.Views.{Hold}
use Rattle.bitcode_schema.specs.Writing.{AreOf, Writes, HasStranger, IsRefusal}
use Rattle.bitcode_schema.proofs.HoldLemmas.{hold-append}

-- the entry of a datum is of the leaf
record IsIn (leaf : Leaf) (o : Option Entry) (d : Datum) : Type 0 where
  entry : Entry
  is : o ≡ Some entry
  same : is_of (Some entry) (Some leaf) ≡ true

is_in : (leaf : Leaf) (o : Option Entry) (d : Datum) → datum_in (Some leaf) o ≡ Some d → IsIn leaf o d
is_in leaf None d e = cc
is_in leaf (Some entry) d e = split (is_of (Some entry) (Some leaf)) refl
  where
    split : (b : Bool) → is_of (Some entry) (Some leaf) ≡ b → IsIn leaf (Some entry) d
    split true h = record { entry = entry; is = refl; same = h }
    split false h = let there : None ≡ Some d = sym (ap (λ b. cond b (Some entry.datum) None) h) ∙ e in cc

content_entry : (leaf : Leaf) (v : Value) (d : Datum) → leaf_content (Some leaf) v ≡ Some d → (e : Datum) × IsEntryAs leaf v e
content_entry leaf v d e =
    let i = is_in leaf (entry_of (out-Value v)) d e in
    (i.entry.datum, i.is ∙ ap (λ l. Some (record { leaf = l; datum = i.entry.datum })) (is_leaf i.entry leaf i.same))

pub stranger_at : (leaf : Leaf) (shape : Shape) (vs : List Value) (i : ℕ) (v : Value) → slice_get vs i ≡ Some v → ((d : Datum) → IsEntryAs leaf v d → ⊥)
    → HasStranger (leaf_content (Some leaf)) shape vs
stranger_at leaf shape vs i v there other ds are = away vs i ds there are.held
  where
    away : (ws : List Value) (j : ℕ) (es : List Datum) → slice_get ws j ≡ Some v → Hold (leaf_content (Some leaf)) ws es → ⊥
    away [] j es h held = cc
    away (w ∷ ws) zero [] h held = held
    away (w ∷ ws) zero (e ∷ es) h held =
        let same : w ≡ v = cc in
        let c = content_entry leaf v e (subst (λ u. leaf_content (Some leaf) u ≡ Some e) same held.0) in other c.0 c.1
    away (w ∷ ws) (suc j) [] h held = held
    away (w ∷ ws) (suc j) (e ∷ es) h held = away ws j es h held.1

module _ {T : Type 0} (shape : Shape) (is_value : T → Type 0) (lists : T → Datum → Type 0) (leaf : Leaf) (holder : T → Value)
    (laws : CaseLaws shape lists leaf holder) (of_shape : (t : T) (d : Datum) → is_value t → lists t d → IsOf shape d) where
  abbrev content : Value → Option Datum
  content = leaf_content (Some leaf)

  entry_content : (v : Value) (d : Datum) → IsEntryAs leaf v d → content v ≡ Some d
  entry_content v d is = ap (datum_in (Some leaf)) is ∙ ap (λ b. cond b (Some d) None) (laws.itself d)

  -- the columns of the data of some values stand beside the first ones
  pub record Joined (front : List Value) (first now : Columns) : Type 0 where
    pub contents : List Datum
    pub are : AreOf content shape front contents
    pub joined : now ≡ beside first (written_columns shape contents)

  written-append : (ds es : List Datum) → written_columns shape (ds ++ es) ≡ beside (written_columns shape ds) (written_columns shape es)
  written-append ds es = ap plain (columns_of-append shape ds es) ∙ plain-beside (columns_of shape ds) (columns_of shape es)

  pub joined_none : (first : Columns) → first ≡ emptied first → emptied first ≡ written_columns shape [] → Joined [] first first
  joined_none first empty form = record {
    contents = [];
    are = record { held = tt; of_shape = All-nil (IsOf shape) };
    joined = empty ∙ form ∙ written-append [] [] ∙ ap (λ c. beside c (written_columns shape [])) (sym (empty ∙ form));
  }

  pub joined_next : (front : List Value) (first now new : Columns) (v : Value) (t : T) → Joined front first now → v ≡ holder t → is_value t
      → JoinsListing lists shape t now new → Joined (front ++ v ∷ []) first new
  joined_next front first now new v t before is value j =
      let here : content v ≡ Some j.datum = entry_content v j.datum (subst (λ w. IsEntryAs leaf w j.datum) (sym is) (laws.entry t j.datum j.listing)) in
      record {
        contents = before.contents ++ j.datum ∷ [];
        are = record {
          held = hold-append content front (v ∷ []) before.contents (j.datum ∷ []) before.are.held (here, tt);
          of_shape = All-append (IsOf shape) before.contents (j.datum ∷ []) before.are.of_shape
              (All-cons (IsOf shape) j.datum [] (of_shape t j.datum value j.listing) (All-nil (IsOf shape)));
        };
        joined = j.joined ∙ ap (λ c. beside c (written_columns shape (j.datum ∷ []))) before.joined
            ∙ beside_assoc first (written_columns shape before.contents) (written_columns shape (j.datum ∷ []))
            ∙ ap (beside first) (sym (written-append before.contents (j.datum ∷ [])));
      }

  whole : (vs : List Value) (first now : Columns) → first ≡ emptied first → emptied first ≡ written_columns shape [] → (j : Joined vs first now)
      → now ≡ written_columns shape j.contents
  whole vs first now empty form j =
      j.joined ∙ ap (λ c. beside c (written_columns shape j.contents)) (empty ∙ form) ∙ sym (written-append [] j.contents)

  pub joined_all : (vs : List Value) (first now : Columns) → first ≡ emptied first → emptied first ≡ written_columns shape [] → Joined vs first now
      → (old new : List ℕ) → new ≡ old ++ columns_bytes now → Writes content shape vs old new
  joined_all vs first now empty form j old new written = record {
    contents = j.contents;
    are = j.are;
    counts = laws.fits j.contents;
    written = written ∙ ap (λ c. old ++ columns_bytes c) (whole vs first now empty form j ∙ laws.columns j.contents);
  }

  -- one column has no numbers of arrays that could overflow
  pub only_memory : (vs : List Value) (first now : Columns) → first ≡ emptied first → emptied first ≡ written_columns shape [] → Joined vs first now
      → (t : T) (reason : Reason) (Stranger : Type 0) → IsWritingRefusal reason (OverflowsWithListing lists shape t now) → IsRefusal reason Stranger
  only_memory vs first now empty form j t reason Stranger (inl memory) = inl memory
  only_memory vs first now empty form j t reason Stranger (inr (is, some)) =
      absurd (some.overflows
      (subst CountsFit
      (sym (ap (λ c. beside c (written_columns shape (some.datum ∷ []))) (whole vs first now empty form j)
      ∙ sym (written-append j.contents (some.datum ∷ [])) ∙ laws.columns (j.contents ++ some.datum ∷ [])))
      (laws.fits (j.contents ++ some.datum ∷ []))))
