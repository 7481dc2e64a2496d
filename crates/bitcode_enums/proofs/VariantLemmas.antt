-- Among variants that follow each other: what is said of the payload of one of them is said of the value, and of its place among them.
use Rattle.std.proofs.Common.{◌≡◌, ℕ, ◌+◌, ◌-◌, List, sym, ap, subst, ◌∙◌, arith}
use Rattle.bitcode_shapes.specs.Datum.{Datum}
use Rattle.bitcode_shapes.specs.Shape.{Shape}
use Rattle.bitcode_coder.specs.Columns.{Columns}
use Rattle.bitcode_coder.specs.Coder.{JoinsListing, OverflowsWithListing}
use Rattle.bitcode_enums.specs.ByNumber.{columns_at}
use Rattle.bitcode_enums.specs.VariantsOf.{VariantsOf, IsVariant}

module _ {T P : Type 0} (vs : VariantsOf T) {number : ℕ} {shape : Shape} {lists : P → Datum → Type 0} {makes : Datum → P → Type 0} {value : P → T} (v : IsVariant vs number shape lists makes value) where
  module _ {t : T} {p : P} (is : t ≡ value p) (first place : ℕ) (at : number ≡ first + place) where
    place_of : place ≡ vs.index t - first
    place_of = let of : vs.index t ≡ number = ap vs.index is ∙ v.is_of p in omega (arith, of, at)

    pub joins_of : (old new : List Columns) → JoinsListing lists shape p (columns_at place old) (columns_at place new)
        → vs.joins t (columns_at (vs.index t - first) old) (columns_at (vs.index t - first) new)
    joins_of old new h =
        subst (λ n. vs.joins t (columns_at n old) (columns_at n new)) place_of
        (subst (λ u. vs.joins u (columns_at place old) (columns_at place new)) (sym is) (v.joins p (columns_at place old) (columns_at place new) h))

    pub overflows_of : (old : List Columns) → OverflowsWithListing lists shape p (columns_at place old) → vs.overflows t (columns_at (vs.index t - first) old)
    overflows_of old h =
        subst (λ n. vs.overflows t (columns_at n old)) place_of
        (subst (λ u. vs.overflows u (columns_at place old)) (sym is) (v.overflows p (columns_at place old) h))
