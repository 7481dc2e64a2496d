-- The fields are read, and then the constructor is asked about what is read again: the same data.
use Rattle.std.proofs.Common.{◌≡◌, true, List, All, refl, sym, ◌∙◌, ap, subst}
use Rattle.std.proofs.lemmas.Result.{err_from_is_err_and}
use Rattle.bitcode_columns.specs.Reading.{Reads}
use Rattle.bitcode_shapes.specs.Shape.{admitted_shape}
use Rattle.bitcode_coder.specs.ColumnFree.{free_count, saturated}
use Rattle.bitcode_coder.specs.Spelling.{Spells}
use Rattle.bitcode_coder.specs.Strict.{JudgesData}
use Rattle.bitcode_coder.proofs.AdmittedLemmas.{read_checked, refuses_admitted, refuses_unadmitted}
use Rattle.bitcode_coder.proofs.LengthRefusalLemmas.{reads_once}
use Rattle.bitcode_coder.proofs.SpellingLemmas.{Spells-unambiguous}
use Rattle.bitcode_structs.proofs.CheckedLemmas.{whole_front}
use Rattle.bitcode_structs.proofs.checked.CheckedDecoderView.read.Goals as goal

pub returns-in_err-written-clause-refused : goal.returns-in_err-written-clause-refused
returns-in_err-written-clause-refused g c =
    let refused = err_from_is_err_and c.from_residual.result c.from_residual.ensures.1 in
    rw (refused.1, refused.2) (refuses_admitted g.T.FromChecked.admits g.D.HoldsData.shape c.args.k _ c.args.input.now.now c.in_err-written.ensures.refused)

pub returns-then-not-are_taken-clause-refused : goal.returns-then-not-are_taken-clause-refused
returns-then-not-are_taken-clause-refused g c =
    let same = reads_once (Spells-unambiguous g.D.HoldsData.shape) c.in_ok-written.ensures.read c.in_ok-read.ensures.read in
    rw c.err.ensures
    (refuses_unadmitted g.T.FromChecked.admits g.D.HoldsData.shape c.args.k _ c.args.input.now.now (record {
      is = refl;
      found = g.D.HoldsData.held c.read.new.self;
      rest = c.read.new.input.now;
      read = c.in_ok-written.ensures.read;
      refused = λ each. c.if-not-are_taken.ensures (subst (All (λ d. g.T.FromChecked.admits d ≡ true)) same.0 each);
    }))

all_admitted : {Entry : Type 0} (admits : Entry → Type 0) (xs ys : List Entry) → xs ≡ ys → All admits ys → All admits xs
all_admitted admits xs ys same each = subst (All admits) (sym same) each

pub returns-clause-read : goal.returns-clause-read
returns-clause-read g c =
    let shape = g.D.HoldsData.shape in
    let admits = g.T.FromChecked.admits in
    let held = g.D.HoldsData.held c.read.new.self in
    let same = reads_once (Spells-unambiguous shape) c.in_ok-written.ensures.read c.in_ok-read.ensures.read in
    let each = all_admitted (λ d. admits d ≡ true) held _ same.0 c.if-not-are_taken.ensures in
    subst (λ ds. Reads (Spells (admitted_shape admits shape)) c.args.k c.args.input.now.now ds c.read.new.input.now) (sym (whole_front admits held each))
    (read_checked admits shape c.args.k c.args.input.now.now held c.read.new.input.now c.in_ok-written.ensures.read each)

pub returns-clause-counted : goal.returns-clause-counted
returns-clause-counted g c =
    let shape = g.D.HoldsData.shape in
    let admits = g.T.FromChecked.admits in
    let held = g.D.HoldsData.held c.read.new.self in
    let same = reads_once (Spells-unambiguous shape) c.in_ok-written.ensures.read c.in_ok-read.ensures.read in
    let each = all_admitted (λ d. admits d ≡ true) held _ same.0 c.if-not-are_taken.ensures in
    c.in_ok-written.ensures.counted ∙ ap (λ ds. saturated (free_count shape ds)) (sym (whole_front admits held each))

pub returns-clause-judged : goal.returns-clause-judged
returns-clause-judged g c strict =
    let shape = g.D.HoldsData.shape in
    let admits = g.T.FromChecked.admits in
    let held = g.D.HoldsData.held c.read.new.self in
    let same = reads_once (Spells-unambiguous shape) c.in_ok-written.ensures.read c.in_ok-read.ensures.read in
    let each = all_admitted (λ d. admits d ≡ true) held _ same.0 c.if-not-are_taken.ensures in
    subst (λ ds. JudgesData shape ds c.in_ok-written.written c.args.input.now.now c.read.new.input.now) (sym (whole_front admits held each))
    (c.in_ok-written.ensures.judged strict)
