-- Types whose values are texts are lawful.
use Rattle.std.proofs.Common.{◌≡◌, ℕ, ◌^◌, ◌<◌, true, Option, None, List, length, refl, sym, ◌∙◌, ap, subst}
use Rattle.std.specs.Prelude.{IsUtf8}
use Rattle.std.specs.declared.alloc.Global.{Global}
use Rattle.std.specs.Prelude.{String, string_bytes}
use Rattle.std.specs.declared.borrow.CowStr.{CowStr}
use Rattle.std.specs.declared.borrow.CowStr.TheVariants.{Owned}
use Rattle.std.specs.declared.boxed.BoxedStr.{BoxedStr}
use Rattle.std.specs.declared.rc.RcStr.{RcStr}
use Rattle.std.specs.declared.sync.ArcStr.{ArcStr}
use Rattle.std.specs.Arc.{arc_str_bytes}
use Rattle.std.specs.Box.{boxed_str_bytes}
use Rattle.std.specs.Cow.{cow_str_bytes}
use Rattle.std.specs.Rc.{rc_str_bytes}
use denote.RawPtr.{block_ptr}
use denote.Ref.{Bor}
use Rattle.bitcode_shapes.specs.Datum.{text, text_in}
use Rattle.bitcode_shapes.specs.Shape.{text_shape, IsWithin}
use Rattle.bitcode_shapes.specs.Lawful.{Lawful, Makeable}
use Rattle.bitcode_shapes.specs.Storable.{IsStorableSize}
use Rattle.bitcode_shapes.specs.LawfulLists.{vec_built}
use Rattle.bitcode_shapes.specs.Texts.{IsTextValue, ListsText, MakesText, SameText}

text_once : {bytes others : List ℕ} → text bytes ≡ text others → bytes ≡ others
text_once e = cc

-- ---- A text of a limited size: `is_whole` is the invariant of its values.

module _ {T : Type 0} (bytes : T → List ℕ) (limit : Option ℕ) (is_whole : T → Type 0) where
  pub limited_lawful : ((t : T) → is_whole t → IsUtf8 (bytes t) × IsWithin limit (length (bytes t)))
      → Lawful (text_shape limit) is_whole (ListsText bytes) (SameText bytes) true
  limited_lawful is_text = record {
    sound = tt;
    listed = λ t h. (text (bytes t), refl);
    of_shape = λ t d h l. record { bytes = bytes t; is = l; utf8 = (is_text t h).0; within = (is_text t h).1 };
    one_listing = λ o t d e h l m. l ∙ sym m;
    reflexive = λ t h. refl;
    symmetric = λ t u h i s. sym s;
    transitive = λ t u v h i j s r. s ∙ r;
  }

  -- each text that can be stored is the content of some value
  pub limited_makeable : (Global → (whole : List ℕ) → IsStorableSize limit (length whole) → IsUtf8 whole → IsWithin limit (length whole)
      → (t : T) × (is_whole t × (bytes t ≡ whole)))
      → Makeable (text_shape limit) is_whole (ListsText bytes) (SameText bytes) (MakesText bytes)
  limited_makeable build = record {
    made = λ g d o s.
        let built = build g o.bytes (subst (λ x. IsStorableSize limit (length (text_in x))) o.is s) o.utf8 o.within in
        (built.0, (built.1.0, o.is ∙ ap text (sym built.1.1)));
    unambiguous = λ d t u h i m n. text_once (sym m ∙ n);
    remade = λ t u d h i l m. text_once (sym l ∙ m);
  }

-- ---- of any size

module _ {T : Type 0} (bytes : T → List ℕ) where
  pub text_lawful : Lawful (text_shape None) (IsTextValue bytes) (ListsText bytes) (SameText bytes) true
  text_lawful = limited_lawful bytes None (IsTextValue bytes) (λ t h. (h, tt))

  pub text_makeable : (Global → (whole : List ℕ) → length whole < 2 ^ 63 → IsUtf8 whole → (t : T) × (bytes t ≡ whole))
      → Makeable (text_shape None) (IsTextValue bytes) (ListsText bytes) (SameText bytes) (MakesText bytes)
  text_makeable build = limited_makeable bytes None (IsTextValue bytes) (λ g whole small utf8 any.
      let built = build g whole small utf8 in
      (built.0, (subst IsUtf8 (sym built.1) utf8, built.1)))

-- ---- built

pub string_built : Global → (whole : List ℕ) → length whole < 2 ^ 63 → IsUtf8 whole → (t : String Global) × (string_bytes t ≡ whole)
string_built g whole small utf8 =
    let bytes = vec_built g whole small in
    (record { bytes = bytes.0; ok = ∣ subst IsUtf8 (sym bytes.1) utf8 ∣₁ }, bytes.1)

pub boxed_str_built : Global → (whole : List ℕ) → length whole < 2 ^ 63 → IsUtf8 whole → (t : BoxedStr Global) × (boxed_str_bytes t ≡ whole)
boxed_str_built g whole small utf8 =
    let inner = string_built g whole small utf8 in
    (record { text = inner.0 }, inner.1)

pub rc_str_built : Global → (whole : List ℕ) → length whole < 2 ^ 63 → IsUtf8 whole → (t : RcStr Global) × (rc_str_bytes t ≡ whole)
rc_str_built g whole small utf8 =
    let inner = string_built g whole small utf8 in
    (record { text = record { ptr = block_ptr 0 0; value = inner.0 } }, inner.1)

pub arc_str_built : Global → (whole : List ℕ) → length whole < 2 ^ 63 → IsUtf8 whole → (t : ArcStr Global) × (arc_str_bytes t ≡ whole)
arc_str_built g whole small utf8 =
    let inner = string_built g whole small utf8 in
    (record { text = record { ptr = block_ptr 0 0; value = inner.0 } }, inner.1)

pub cow_str_built : Global → (whole : List ℕ) → length whole < 2 ^ 63 → IsUtf8 whole → (t : CowStr Global) × (cow_str_bytes t ≡ whole)
cow_str_built g whole small utf8 =
    let inner = string_built g whole small utf8 in
    (Owned inner.0, inner.1)

pub str_built : (whole : List ℕ) → length whole < 2 ^ 63 → IsUtf8 whole → (t : Bor (List ℕ)) × (t.now ≡ whole)
str_built whole small utf8 = (record { ref_ptr = (0, 0); now = whole }, refl)
