-- What an encoder that began without entries holds after one value.
use Rattle.std.proofs.Common.{◌≡◌, ℕ, List, [], ◌∷◌, ◌++◌, sym, ◌∙◌, ap, subst, arith}
use Rattle.bitcode_shapes.specs.Datum.{Datum}
use Rattle.bitcode_shapes.specs.Shape.{Shape}
use Rattle.bitcode_coder.specs.Columns.{Columns, no_columns, one, two, arrays, beside, plain, emptied, CountsFit}
use Rattle.bitcode_coder.specs.Transposition.{columns_of, spread}
use Rattle.bitcode_coder.specs.Spelling.{columns_bytes, texts_of}
use Rattle.bitcode_coder.specs.Coder.{written_columns, JoinsListing, OverflowsWithListing}
use Rattle.bitcode_coder.proofs.TranspositionLemmas.{columns_of-append, columns_of-none, plain-beside, CountsFit-plain, columns_bytes-plain, flat-columns_of, texts_of-flat}
use Rattle.bitcode_derive.specs.Whole.{columns_of_one, IsEncodingOf, HasLongListing}
use Rattle.bitcode_derive.specs.Front.{IsWrittenBehind}

-- columns without entries have no arrays
pub CountsFit-emptied : (a : Columns) → CountsFit (emptied a)
CountsFit-emptied no_columns = tt
CountsFit-emptied (one kind entries) = tt
CountsFit-emptied (two first second) = (CountsFit-emptied first, CountsFit-emptied second)
CountsFit-emptied (arrays size count elements) = (omega arith, CountsFit-emptied elements)

CountsFit-none : (shape : Shape) → CountsFit (written_columns shape [])
CountsFit-none shape =
    (CountsFit-plain (columns_of shape [])).1 (subst CountsFit (sym (columns_of-none shape [])) (CountsFit-emptied (columns_of shape [])))

pub beside-none : (shape : Shape) (ds : List Datum) → beside (written_columns shape []) (written_columns shape ds) ≡ written_columns shape ds
beside-none shape ds = sym (plain-beside (columns_of shape []) (columns_of shape ds)) ∙ ap plain (sym (columns_of-append shape [] ds))

-- the text of a tree of columns is that of their list
pub written_text : (shape : Shape) (ds : List Datum) → columns_bytes (written_columns shape ds) ≡ texts_of (spread shape ds)
written_text shape ds =
    columns_bytes-plain (columns_of shape ds) ∙ sym (texts_of-flat (columns_of shape ds)) ∙ ap texts_of (flat-columns_of shape ds)

module _ {T : Type 0} (lists : T → Datum → Type 0) (shape : Shape) (t : T) (old : Columns) (none_yet : old ≡ written_columns shape []) where
  CountsFit-joined : (d : Datum) → CountsFit (beside old (written_columns shape (d ∷ []))) → CountsFit (columns_of_one shape d)
  CountsFit-joined d fits =
      (CountsFit-plain (columns_of_one shape d)).0
      (subst CountsFit (ap (λ a. beside a (written_columns shape (d ∷ []))) none_yet ∙ beside-none shape (d ∷ [])) fits)

  CountsFit-to_joined : (d : Datum) → CountsFit (columns_of_one shape d) → CountsFit (beside old (written_columns shape (d ∷ [])))
  CountsFit-to_joined d fits =
      subst CountsFit (sym (ap (λ a. beside a (written_columns shape (d ∷ []))) none_yet ∙ beside-none shape (d ∷ [])))
      ((CountsFit-plain (columns_of_one shape d)).1 fits)

  pub encoding_of-joined : (new : Columns) (bytes : List ℕ) → JoinsListing lists shape t old new → bytes ≡ columns_bytes new
      → IsEncodingOf lists shape t bytes
  encoding_of-joined new bytes j text =
      let d = j.datum in
      let is : new ≡ written_columns shape (d ∷ []) =
      j.joined ∙ ap (λ a. beside a (written_columns shape (d ∷ []))) none_yet ∙ beside-none shape (d ∷ []) in
      record {
        datum = d;
        listing = j.listing;
        counts = CountsFit-joined d (subst CountsFit j.joined (j.fits (subst CountsFit (sym none_yet) (CountsFit-none shape))));
        written = text ∙ ap columns_bytes is ∙ written_text shape (d ∷ []);
      }

  pub long_listing : OverflowsWithListing lists shape t old → HasLongListing lists shape t
  long_listing p = record { datum = p.datum; listing = p.listing; overflows = λ fits. p.overflows (CountsFit-to_joined p.datum fits) }

-- what was written behind nothing is all there is
pub written_alone : {T : Type 0} (lists : T → Datum → Type 0) (shape : Shape) (t : T) (before after : List ℕ) → before ≡ [] → IsWrittenBehind lists shape t before after
    → IsEncodingOf lists shape t after
written_alone lists shape t before after none w =
    subst (IsEncodingOf lists shape t) (sym (w.behind ∙ ap (λ front. front ++ w.encoding) none)) w.written
