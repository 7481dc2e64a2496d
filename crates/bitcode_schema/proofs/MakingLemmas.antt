-- Values are made of all data that were read.
use Rattle.std.proofs.Common.{◌≡◌, ℕ, Bool, List, [], ◌∷◌, ◌++◌, length, All, sym, ap, subst, ◌∙◌, arith, length-append}
use Rattle.std.specs.List.{AllZip}
use Rattle.std.proofs.lemmas.List.{append-nil, nil_from_length}
use Rattle.std.proofs.lemmas.List.Elements.{All-weaker}
use Rattle.bitcode_columns.specs.Reading.{Reads}
use Rattle.bitcode_shapes.specs.Datum.{Datum}
use Rattle.bitcode_shapes.specs.LawfulLists.{zip_length}
use Rattle.bitcode_shapes.specs.Shape.{Shape, IsOf}
use Rattle.bitcode_shapes.specs.Checked.{nonzero_shape}
use Rattle.bitcode_shapes.specs.Ints.{int_shape}
use Rattle.bitcode_coder.specs.Coder.{TakesEach}
use Rattle.bitcode_coder.specs.Spelling.{Spells}
use Rattle.bitcode_coder.proofs.LengthRefusalLemmas.{reads_once}
use Rattle.bitcode_coder.proofs.SpellingLemmas.{Spells-unambiguous}
use Rattle.bitcode_schema.specs.Forms.{Content}
use Rattle.bitcode_schema.specs.Making.{MakesAs, MakesData}
use Rattle.bitcode_schema.specs.Reading.{ReadsData}
use Rattle.bitcode_schema.specs.Views.{Hold}
use Rattle.bitcode_untyped.specs.declared.value.Value.{Value}

held_made : (content : Content) (ds : List Datum) (values : List Value) → AllZip (MakesAs content) ds values → Hold content values ds
held_made content [] [] all = tt
held_made content [] (v ∷ values) all = absurd all
held_made content (d ∷ ds) [] all = absurd all
held_made content (d ∷ ds) (v ∷ values) all = (all.0, held_made content ds values all.1)

pub makes_all : (shape : Shape) (content : Content) (k : ℕ) (old new : List ℕ) (held left : List Datum) (values : List Value)
    → Reads (Spells shape) k old held new → TakesEach (MakesAs content) k values held left → MakesData shape content k old new values
makes_all shape content k old new held left values read taken =
    let parts : length taken.parts ≡ length values = zip_length (MakesAs content) taken.parts values taken.made in
    let none : left ≡ [] =
    nil_from_length left (omega (arith, parts, taken.size, read.size, ap length taken.taken, length-append taken.parts left)) in
    let all : held ≡ taken.parts = taken.taken ∙ ap (λ ds. taken.parts ++ ds) none ∙ append-nil taken.parts in
    record { found = held; read = read; made = subst (Hold content values) (sym all) (held_made content taken.parts values taken.made) }

-- ---- integers except 0

module _ (width : ℕ) (signed : Bool) where
  any_integers : (ds : List Datum) → All (IsOf (nonzero_shape width signed)) ds → All (IsOf (int_shape width signed)) ds
  any_integers ds each =
      All-weaker (IsOf (nonzero_shape width signed)) (IsOf (int_shape width signed))
      (λ d is. record { value = is.value; is = is.is; in_width = is.in_width; in_allowed = tt }) ds each

  pub makes_nonzeros : (content : Content) (k : ℕ) (old rest new : List ℕ) (strict written : Bool) (values : List Value)
      → ReadsData (nonzero_shape width signed) k strict old rest written → MakesData (int_shape width signed) content k old new values
      → MakesData (nonzero_shape width signed) content k old new values
  makes_nonzeros content k old rest new strict written values r m =
      let as_integers : Reads (Spells (int_shape width signed)) k old r.found rest = record {
        size = r.read.size;
        piece = r.read.piece;
        whole = r.read.whole;
        spelled = record { of_shape = any_integers r.found r.read.spelled.of_shape; counts = r.read.spelled.counts; columns = r.read.spelled.columns };
      } in
      let same = reads_once (Spells-unambiguous (int_shape width signed)) as_integers m.read in
      record {
        found = r.found;
        read = subst (Reads (Spells (nonzero_shape width signed)) k old r.found) same.1 r.read;
        made = subst (Hold content values) (sym same.0) m.made;
      }
