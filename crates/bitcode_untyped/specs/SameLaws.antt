-- The laws of `==`: it decides whether two values have the same content, and so it is an equivalence.
use Rattle.std.proofs.Common.{◌≡◌, ◌==◌, ◌&&◌, refl, ap, ◌∙◌}
use Rattle.std.specs.Ordering.{int_eq}
use Rattle.std.specs.Bool.{Decides}
use Rattle.std.specs.Cmp.{IsEquivalence, IsPartialEquivalence, decided, on_equiv, partial_equiv_from_equiv, signed_Decides, unsigned_Decides}
use Rattle.std.specs.Cmp.Lexicographic.{pointwise, bytes_decides}
use Rattle.std.proofs.lemmas.Bool.Decides.{Decides-and, Decides-like}
use Rattle.bitcode_shapes.specs.Datum.{Datum, Data, unit, number, text, list, tuple, choice, no_data, datum_and, number_in, text_in, fields_in, variant_in, payload_in, first_of, rest_of}
use Rattle.bitcode_untyped.specs.Content.{content_of}
use Rattle.bitcode_untyped.specs.Same.{same_datum, same_data, same_values}

-- ---- data

-- the data in a list
abbrev listed : Datum → Data
listed (list ds) = ds
listed _ = no_data

mutual
  pub same_datum_decides : (d e : Datum) → Decides (same_datum d e) (d ≡ e)
  same_datum_decides unit unit = (λ h. refl, λ h. refl)
  same_datum_decides (number z) (number y) = Decides-like (int_eq z y) (ap number) (ap number_in) (signed_Decides z y)
  same_datum_decides (text bytes) (text others) = Decides-like (pointwise ◌==◌ bytes others) (ap text) (ap text_in) (bytes_decides bytes others)
  same_datum_decides (list ds) (list es) = Decides-like (same_data ds es) (ap list) (ap listed) (same_data_decides ds es)
  same_datum_decides (tuple ds) (tuple es) = Decides-like (same_data ds es) (ap tuple) (ap fields_in) (same_data_decides ds es)
  same_datum_decides (choice i d) (choice j e) =
      Decides-like ((i == j) && same_datum d e) (λ h. ap (λ n. choice n d) h.0 ∙ ap (choice j) h.1) (λ h. (ap variant_in h, ap payload_in h))
      (Decides-and (i == j) (same_datum d e) (unsigned_Decides i j) (same_datum_decides d e))
  same_datum_decides _ _ = (λ h. cc, λ h. cc)

  pub same_data_decides : (ds es : Data) → Decides (same_data ds es) (ds ≡ es)
  same_data_decides no_data no_data = (λ h. refl, λ h. refl)
  same_data_decides (datum_and d ds) (datum_and e es) =
      Decides-like (same_datum d e && same_data ds es) (λ h. ap (λ x. datum_and x ds) h.0 ∙ ap (datum_and e) h.1) (λ h. (ap first_of h, ap rest_of h))
      (Decides-and (same_datum d e) (same_data ds es) (same_datum_decides d e) (same_data_decides ds es))
  same_data_decides _ _ = (λ h. cc, λ h. cc)

-- ---- the laws of `==`

pub same_equivalence : IsEquivalence same_values
same_equivalence = on_equiv content_of (decided same_datum same_datum_decides)

pub same_partial : IsPartialEquivalence same_values
same_partial = partial_equiv_from_equiv same_equivalence
