-- Keys whose order tells their content.
use Rattle.std.proofs.Common.{◌≡◌, ℕ, true, List, [], ◌∷◌, map, refl, ap, sym, subst, ◌∙◌, string_bytes}
use Rattle.std.specs.declared.cmp.Ordering.{Ordering}
use Rattle.std.specs.declared.cmp.Ordering.TheVariants.{Less, Equal, Greater}
use Rattle.std.specs.Cmp.{IsTotalOrder, on_total}
use Rattle.std.specs.Cmp.Lexicographic.{slice_cmp, nat_list_cmp_total}
use Rattle.std.specs.Ordering.{is_eq, eq_by_cmp, nat_cmp, int_cmp}
use Rattle.std.specs.String.{string_cmp, string_cmp_total}
use Rattle.std.proofs.lemmas.Cmp.{eq_by_cmp_equiv, nat_cmp_total, int_cmp_total}
use Rattle.std.proofs.lemmas.Map.Lookups.{exact_unsigned, exact_signed, exact_bytes}
use Rattle.arrayvec.specs.ArrayString.{ArrayString}
use Rattle.bitcode_shapes.specs.Datum.{Datum, number, text, number_in, natural_in, text_in, elements_in}
use Rattle.bitcode_coder.specs.Spelling.{natural}
use Rattle.bitcode_serde_types.specs.Keys.{TellsKeys}
use Rattle.bitcode_serde_types.specs.Limited.{array_string_datum}
use Rattle.bitcode_serde_types.specs.Uuids.{uuid_datum}

equal_from : (r : Ordering) → is_eq r ≡ true → r ≡ Equal
equal_from Less h = absurd cc
equal_from Equal h = refl
equal_from Greater h = absurd cc

-- the order of the keys is that of parts that are told by the content
pub keys_by : {K P : Type 0} {R : K → K → Ordering} (S : P → P → Ordering) (part : K → P) (key : K → Datum) → IsTotalOrder R
    → ((a b : K) → R a b ≡ S (part a) (part b)) → ((x y : P) → S x y ≡ Equal → x ≡ y) → ((a b : K) → part a ≡ part b → key a ≡ key b)
    → ((a b : K) → key a ≡ key b → part a ≡ part b) → TellsKeys (eq_by_cmp R) key
keys_by {R = R} S part key o by exact same tells = record {
  laws = eq_by_cmp_equiv o;
  same = λ a b h. same a b (exact (part a) (part b) (sym (by a b) ∙ equal_from (R a b) h));
  tells = λ a b e.
      let itself : R a a ≡ Equal = equal_from (R a a) ((eq_by_cmp_equiv o).refl a) in
      ap is_eq (by a b ∙ subst (λ p. S (part a) p ≡ Equal) (tells a b e) (sym (by a a) ∙ itself));
}

pub natural_keys : TellsKeys (eq_by_cmp nat_cmp) natural
natural_keys = keys_by nat_cmp (λ n. n) natural nat_cmp_total (λ a b. refl) exact_unsigned (λ a b e. ap natural e) (λ a b e. ap natural_in e)

pub number_keys : TellsKeys (eq_by_cmp int_cmp) number
number_keys = keys_by int_cmp (λ z. z) number int_cmp_total (λ a b. refl) exact_signed (λ a b e. ap number e) (λ a b e. ap number_in e)

pub text_keys : {Z : Type 0} → TellsKeys (eq_by_cmp (string_cmp {Z = Z})) (λ s. text (string_bytes s))
text_keys = keys_by (slice_cmp nat_cmp) string_bytes (λ s. text (string_bytes s)) string_cmp_total (λ a b. refl) exact_bytes (λ a b e. ap text e) (λ a b e. ap text_in e)

pub array_string_keys : TellsKeys (eq_by_cmp (λ (s t : ArrayString). slice_cmp nat_cmp s.bytes t.bytes)) array_string_datum
array_string_keys =
    keys_by (slice_cmp nat_cmp) (λ (s : ArrayString). s.bytes) array_string_datum (on_total (λ (s : ArrayString). s.bytes) nat_list_cmp_total) (λ a b. refl)
    exact_bytes (λ a b e. ap text e) (λ a b e. ap text_in e)

pub uuid_keys : TellsKeys (eq_by_cmp (slice_cmp nat_cmp)) uuid_datum
uuid_keys =
    keys_by (slice_cmp nat_cmp) (λ u. u) uuid_datum nat_list_cmp_total (λ a b. refl) exact_bytes (λ a b e. ap uuid_datum e)
    (λ a b e. sym (bytes_again a) ∙ ap (λ d. map natural_in (elements_in d)) e ∙ bytes_again b)
  where
    bytes_again : (bytes : List ℕ) → map natural_in (elements_in (uuid_datum bytes)) ≡ bytes
    bytes_again [] = refl
    bytes_again (n ∷ ns) = ap (λ ms. n ∷ ms) (bytes_again ns)
