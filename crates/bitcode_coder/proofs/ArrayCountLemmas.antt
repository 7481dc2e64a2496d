-- Numbers of arrays in columns that are joined: where the whole fits, so does its front.
use Rattle.std.proofs.Common.{◌≡◌, ℕ, ◌+◌, ◌*◌, ◌≤◌, List, [], ◌++◌, refl, sym, ◌∙◌, ap, ap₂, subst, arith, append-nil, mul-le-mul_right}
use Rattle.bitcode_shapes.specs.Datum.{Datum}
use Rattle.bitcode_shapes.specs.Shape.{Shape}
use Rattle.bitcode_coder.specs.Columns.{Columns, no_columns, one, two, arrays, beside, plain, emptied, CountsFit}
use Rattle.bitcode_coder.specs.Transposition.{columns_of}
use Rattle.bitcode_coder.specs.Coder.{written_columns}
use Rattle.bitcode_coder.proofs.TranspositionLemmas.{columns_of-append, columns_of-none, plain-beside, plain-emptied, beside_assoc}

first_of_two : {a b c d : Columns} → two a b ≡ two c d → a ≡ c
first_of_two e = cc

second_of_two : {a b c d : Columns} → two a b ≡ two c d → b ≡ d
second_of_two e = cc

elements_of_arrays : {m n k l : ℕ} {a b : Columns} → arrays m k a ≡ arrays n l b → a ≡ b
elements_of_arrays e = cc

-- columns of one form
pub emptied-beside : (a b : Columns) → emptied a ≡ emptied b → emptied (beside a b) ≡ emptied a
emptied-beside no_columns b e = refl
emptied-beside (one kind entries) no_columns e = absurd cc
emptied-beside (one kind entries) (one _ _) e = refl
emptied-beside (one kind entries) (two _ _) e = absurd cc
emptied-beside (one kind entries) (arrays _ _ _) e = absurd cc
emptied-beside (two a b) no_columns e = absurd cc
emptied-beside (two a b) (one _ _) e = absurd cc
emptied-beside (two a b) (two c d) e = ap₂ two (emptied-beside a c (first_of_two e)) (emptied-beside b d (second_of_two e))
emptied-beside (two a b) (arrays _ _ _) e = absurd cc
emptied-beside (arrays size count a) no_columns e = absurd cc
emptied-beside (arrays size count a) (one _ _) e = absurd cc
emptied-beside (arrays size count a) (two _ _) e = absurd cc
emptied-beside (arrays size count a) (arrays _ _ b) e = ap (arrays size 0) (emptied-beside a b (elements_of_arrays e))

pub CountsFit-front : (a b : Columns) → emptied a ≡ emptied b → CountsFit (beside a b) → CountsFit a
CountsFit-front no_columns b e h = tt
CountsFit-front (one kind entries) b e h = tt
CountsFit-front (two a b) no_columns e h = absurd cc
CountsFit-front (two a b) (one _ _) e h = absurd cc
CountsFit-front (two a b) (two c d) e h = (CountsFit-front a c (first_of_two e) h.0, CountsFit-front b d (second_of_two e) h.1)
CountsFit-front (two a b) (arrays _ _ _) e h = absurd cc
CountsFit-front (arrays size count a) no_columns e h = absurd cc
CountsFit-front (arrays size count a) (one _ _) e h = absurd cc
CountsFit-front (arrays size count a) (two _ _) e h = absurd cc
CountsFit-front (arrays size count a) (arrays _ more b) e h =
    let fewer : count * size ≤ (count + more) * size = mul-le-mul_right size (omega arith) in
    (omega (arith, h.0), CountsFit-front a b (elements_of_arrays e) h.1)

-- ---- the columns that data of a shape add

pub written-append : (shape : Shape) (ds es : List Datum) → written_columns shape (ds ++ es) ≡ beside (written_columns shape ds) (written_columns shape es)
written-append shape ds es = ap plain (columns_of-append shape ds es) ∙ plain-beside (columns_of shape ds) (columns_of shape es)

pub emptied-written : (shape : Shape) (ds : List Datum) → emptied (written_columns shape ds) ≡ written_columns shape []
emptied-written shape ds = sym (ap plain (columns_of-none shape ds) ∙ plain-emptied (columns_of shape ds))

module _ (shape : Shape) (old : Columns) (form : emptied old ≡ written_columns shape []) where
  pub emptied-joined : (ds : List Datum) → emptied (beside old (written_columns shape ds)) ≡ written_columns shape []
  emptied-joined ds = emptied-beside old (written_columns shape ds) (form ∙ sym (emptied-written shape ds)) ∙ form

  pub joined-append : (ds es : List Datum) → beside old (written_columns shape (ds ++ es)) ≡ beside (beside old (written_columns shape ds)) (written_columns shape es)
  joined-append ds es = ap (beside old) (written-append shape ds es) ∙ sym (beside_assoc old (written_columns shape ds) (written_columns shape es))

  -- where the data fit, so do those of a front
  pub CountsFit-fewer : (ds es : List Datum) → CountsFit (beside old (written_columns shape (ds ++ es))) → CountsFit (beside old (written_columns shape ds))
  CountsFit-fewer ds es fits =
      CountsFit-front (beside old (written_columns shape ds)) (written_columns shape es) (emptied-joined ds ∙ sym (emptied-written shape es))
      (subst CountsFit (joined-append ds es) fits)

beside-emptied : (a : Columns) → beside a (emptied a) ≡ a
beside-emptied no_columns = refl
beside-emptied (one kind entries) = ap (one kind) (append-nil entries)
beside-emptied (two a b) = ap₂ two (beside-emptied a) (beside-emptied b)
beside-emptied (arrays size count a) = ap₂ (arrays size) (omega arith) (beside-emptied a)

-- no data add nothing
pub joined-none : (shape : Shape) (old : Columns) → emptied old ≡ written_columns shape [] → beside old (written_columns shape []) ≡ old
joined-none shape old form = ap (beside old) (sym form) ∙ beside-emptied old
