-- A struct with skipped fields corresponds to the tuple of its other fields. Where it is made from a datum, each skipped
-- field has its default.
use Rattle.std.proofs.Common.{◌≡◌, [], sym, subst, arith}
use Rattle.std.specs.Prelude.{String, Vec, string_bytes}
use Rattle.std.proofs.lemmas.Str.{IsUtf8-nil}
use Rattle.std.specs.declared.alloc.Global.{Global}
use Rattle.bitcode_shapes.specs.DataOf.{DataOf, plain_data}
use Rattle.bitcode_shapes.specs.LawfulImages.{image_lawful}
use Rattle.bitcode_shapes.specs.LawfulLists.{vec_built}
use Rattle.bitcode_shapes.specs.LawfulTexts.{string_built}
use Rattle.bitcode_shapes.specs.SameArrays.{image_same_arrays}
use Rattle.bitcode_shapes.specs.SameData.{undetermined}
use Rattle.bitcode_shapes.specs.SameIsOne.{inexact}

-- Values whose written fields are the same are the same.
abbrev pub skipped_data : {T P : Type 0} (written : T → P) (has_defaults : T → Type 0) → (Global → (p : P) → (t : T) × ((written t ≡ p) × has_defaults t)) → DataOf P → DataOf T
skipped_data written has_defaults build of =
    plain_data {makes = λ d t. of.makes d (written t) × has_defaults t} (image_lawful written of.lawful)
    (record {
      made = λ g d o s.
          let inner = of.makeable.made g d o s in
          let found = build g inner.0 in
          (found.0, (subst of.is_value (sym found.1.0) inner.1.0, (subst (of.makes d) (sym found.1.0) inner.1.1, found.1.1)));
      unambiguous = λ d t u h i x y. of.makeable.unambiguous d (written t) (written u) h i x.0 y.0;
      remade = λ t u d h i l x. of.makeable.remade (written t) (written u) d h i l x.0;
    })
    (image_same_arrays written of.same_arrays) undetermined inexact

-- the list and the text that a skipped field has
pub empty_vec : {T : Type 0} → Global → (v : Vec T Global) × (v.items ≡ [])
empty_vec g = vec_built g [] (omega arith)

pub empty_string : Global → (s : String Global) × (string_bytes s ≡ [])
empty_string g = string_built g [] (omega arith) IsUtf8-nil
