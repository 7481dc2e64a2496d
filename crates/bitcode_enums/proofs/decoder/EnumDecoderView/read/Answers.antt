-- The variants are read, and then the payloads of one variant after another from what is left.
use Rattle.std.proofs.Common.{◌≡◌, ◌+◌, ◌-◌, ◌∙◌, [], suc, length, slice_index, refl, sym, ap, subst, arith}
use Rattle.std.proofs.lemmas.List.{length-set}
use Rattle.std.proofs.lemmas.Result.{err_from_is_err_and}
use Rattle.bitcode_columns.specs.Histogram.{count_of}
use Rattle.bitcode_columns.specs.Reading.{Reads}
use Rattle.bitcode_coder.specs.Coder.{IsReadingRefusal}
use Rattle.bitcode_coder.specs.FirstFault.{IsFirstFault}
use Rattle.bitcode_coder.specs.ColumnFree.{free_count, saturated}
use Rattle.bitcode_coder.specs.Spelling.{Spells}
use Rattle.bitcode_shapes.specs.Shape.{choice_shape}
use Rattle.bitcode_coder.proofs.LengthPartLemmas.{ends_behind_read}
use Rattle.bitcode_parts.specs.Payloads.{payloads_of, choices_of}
use Rattle.bitcode_parts.specs.Variants.{variants_left, variant_counts}
use Rattle.bitcode_enums.specs.ByNumber.{shape_at, shape_among, KeepsOthers}
use Rattle.bitcode_enums.specs.ByNumberLaws.{from_zero, shape_of_number}
use Rattle.bitcode_enums.proofs.ReadingLemmas.{counts_each, refuses_enum_variants, reads_enum, refuses_enum_payloads, fault_of_variants, fault_of_payloads}
use Rattle.bitcode_enums.proofs.PayloadReadingLemmas.{ReadTo, read_none, refuses_there, fault_there, read_next, read_all, ends_further, ends_read}
use Rattle.bitcode_coder.specs.Strict.{JudgesData}
use Rattle.bitcode_enums.proofs.ColumnFreeLemmas.{free_to, counted_none, counted_next, counted_all}
use Rattle.bitcode_enums.proofs.StrictLemmas.{JudgedTo, judged_none, judged_next, judged_all}
use Rattle.bitcode_enums.proofs.decoder.EnumDecoderView.read.Goals as goal

pub returns-in_err-written-clause-refused : goal.returns-in_err-written-clause-refused
returns-in_err-written-clause-refused g c =
    let refused = err_from_is_err_and c.from_residual.result c.from_residual.ensures.1 in
    rw (refused.1, refused.2) (refuses_enum_variants g.T.Enum.each.variants.shapes g.row.N c.args.k c.args.input.now.now g.met.T.EnumOf.counted.0 _ c.in_err-written.ensures.refused)

pub returns-in_err-written-clause-exact : goal.returns-in_err-written-clause-exact
returns-in_err-written-clause-exact g c =
    let refused = err_from_is_err_and c.from_residual.result c.from_residual.ensures.1 in
    rw (refused.1, refused.2) (fault_of_variants g.T.Enum.each.variants.shapes g.row.N c.args.k c.args.input.now.now g.met.T.EnumOf.counted.0 _ c.in_err-written.ensures.refused)

pub loop-number-init : goal.loop-number-init
loop-number-init g c = record {
  size = let sized = g.met.D.PayloadsOf.counted.lists c.args.self.now.payloads in omega (arith, sized);
  variants = refl;
  read = read_none g.T.Enum.each.variants.shapes (variants_left c.read.new.self) c.read.new.input.now (g.D.HoldsPayloads.held.lists c.args.self.now.payloads);
  rest = record { taken = []; whole = refl };
  free = counted_none g.T.Enum.each.variants.shapes (g.D.HoldsPayloads.held.lists c.args.self.now.payloads);
  judged = λ strict. judged_none g.T.Enum.each.variants.shapes c.read.new.input.now c.in_ok-written.written (g.D.HoldsPayloads.held.lists c.args.self.now.payloads);
}

pub returns-in_err-payloads-clause-refused : goal.returns-in_err-payloads-clause-refused
returns-in_err-payloads-clause-refused g c =
    let refused = err_from_is_err_and c.from_residual-in_err-payloads.result c.from_residual-in_err-payloads.ensures.1 in
    let known = c.loop-number-test.true in
    let below = g.met.T.EnumOf.counted.0 in
    let same : shape_among (c.loop-number.number - 0) g.D.HoldsPayloads.held.shapes ≡ shape_at c.loop-number.number g.T.Enum.each.variants.shapes =
    shape_of_number g.T.Enum.each.variants.shapes g.D.HoldsPayloads.held.shapes g.met.D.PayloadsDecoder.same_shapes c.loop-number.number (let counts = g.met.D.PayloadsOf.counted.shapes in omega (arith, known, counts)) in
    let counted : c.length-count.result ≡ count_of c.loop-number.number (variants_left c.read.new.self) =
    c.length-count.ensures ∙ ap (λ v. slice_index (variant_counts v) c.loop-number.number) c.loop-number.invariant.variants
    ∙ counts_each _ _ _ _ (c.in_ok-written.ensures.counts refl) refl c.loop-number.number (let size = (c.in_ok-written.ensures.counts refl).size in omega (arith, known, size)) in
    rw (refused.1, refused.2) (
    refuses_enum_payloads g.T.Enum.each.variants.shapes g.row.N c.args.k c.args.input.now.now g.met.T.EnumOf.counted.0 _ _ c.in_ok-written.ensures.read _
    (refuses_there g.T.Enum.each.variants.shapes (variants_left c.read.new.self) c.read.new.input.now c.loop-number.number (g.D.HoldsPayloads.held.lists c.loop-number.self.payloads) c.loop-number.input.now c.loop-number.invariant.read
    (omega (arith, known, below)) _ (subst (λ n. IsReadingRefusal (shape_at c.loop-number.number g.T.Enum.each.variants.shapes) c.in_err-payloads.field-0.0.reason n c.loop-number.input.now) counted
    (subst (λ s. IsReadingRefusal s c.in_err-payloads.field-0.0.reason c.length-count.result c.loop-number.input.now) same c.in_err-payloads.ensures.refused)))
    )

pub returns-in_err-payloads-clause-exact : goal.returns-in_err-payloads-clause-exact
returns-in_err-payloads-clause-exact g c =
    let refused = err_from_is_err_and c.from_residual-in_err-payloads.result c.from_residual-in_err-payloads.ensures.1 in
    let known = c.loop-number-test.true in
    let below = g.met.T.EnumOf.counted.0 in
    let same : shape_among (c.loop-number.number - 0) g.D.HoldsPayloads.held.shapes ≡ shape_at c.loop-number.number g.T.Enum.each.variants.shapes =
    shape_of_number g.T.Enum.each.variants.shapes g.D.HoldsPayloads.held.shapes g.met.D.PayloadsDecoder.same_shapes c.loop-number.number (let counts = g.met.D.PayloadsOf.counted.shapes in omega (arith, known, counts)) in
    let counted : c.length-count.result ≡ count_of c.loop-number.number (variants_left c.read.new.self) =
    c.length-count.ensures ∙ ap (λ v. slice_index (variant_counts v) c.loop-number.number) c.loop-number.invariant.variants
    ∙ counts_each _ _ _ _ (c.in_ok-written.ensures.counts refl) refl c.loop-number.number (let size = (c.in_ok-written.ensures.counts refl).size in omega (arith, known, size)) in
    rw (refused.1, refused.2) (
    fault_of_payloads g.T.Enum.each.variants.shapes g.row.N c.args.k c.args.input.now.now g.met.T.EnumOf.counted.0 _ _ c.in_ok-written.ensures.read _
    (fault_there g.T.Enum.each.variants.shapes (variants_left c.read.new.self) c.read.new.input.now c.loop-number.number (g.D.HoldsPayloads.held.lists c.loop-number.self.payloads) c.loop-number.input.now c.loop-number.invariant.read
    (omega (arith, known, below)) _ (subst (λ n. IsFirstFault (shape_at c.loop-number.number g.T.Enum.each.variants.shapes) c.in_err-payloads.field-0.0.reason n c.loop-number.input.now) counted
    (subst (λ s. IsFirstFault s c.in_err-payloads.field-0.0.reason c.length-count.result c.loop-number.input.now) same c.in_err-payloads.ensures.exact)))
    )

pub returns-in_err-payloads-clause-rest : goal.returns-in_err-payloads-clause-rest
returns-in_err-payloads-clause-rest g c =
    let refused = err_from_is_err_and c.from_residual-in_err-payloads.result c.from_residual-in_err-payloads.ensures.1 in
    rw refused.1 (ends_behind_read c.read_at.new.input.now c.in_ok-written.ensures.read (ends_further c.loop-number.invariant.rest c.in_err-payloads.ensures.rest))

pub loop-number-preserved : goal.loop-number-preserved
loop-number-preserved g c =
    let all = c.loop-number.invariant.size in
    let next : suc c.loop-number.number ≡ c.loop-number.number + 1 = omega arith in
    let known = c.loop-number-test.true in
    let below = g.met.T.EnumOf.counted.0 in
    let same : shape_among (c.loop-number.number - 0) g.D.HoldsPayloads.held.shapes ≡ shape_at c.loop-number.number g.T.Enum.each.variants.shapes =
    shape_of_number g.T.Enum.each.variants.shapes g.D.HoldsPayloads.held.shapes g.met.D.PayloadsDecoder.same_shapes c.loop-number.number (let counts = g.met.D.PayloadsOf.counted.shapes in omega (arith, known, counts)) in
    let counted : c.length-count.result ≡ count_of c.loop-number.number (variants_left c.read.new.self) =
    c.length-count.ensures ∙ ap (λ v. slice_index (variant_counts v) c.loop-number.number) c.loop-number.invariant.variants
    ∙ counts_each _ _ _ _ (c.in_ok-written.ensures.counts refl) refl c.loop-number.number (let size = (c.in_ok-written.ensures.counts refl).size in omega (arith, known, size)) in
    let others : KeepsOthers [] c.loop-number.number (g.D.HoldsPayloads.held.lists c.loop-number.self.payloads) (g.D.HoldsPayloads.held.lists c.read_at.new.self) =
    subst (λ n. KeepsOthers [] n (g.D.HoldsPayloads.held.lists c.loop-number.self.payloads) (g.D.HoldsPayloads.held.lists c.read_at.new.self)) (from_zero c.loop-number.number) c.read_at.ensures.others in
    let read =
    subst (λ n. Reads (Spells (shape_at c.loop-number.number g.T.Enum.each.variants.shapes)) c.length-count.result c.loop-number.input.now (payloads_of n (g.D.HoldsPayloads.held.lists c.read_at.new.self)) c.read_at.new.input.now) (from_zero c.loop-number.number)
    (subst (λ s. Reads (Spells s) c.length-count.result c.loop-number.input.now (payloads_of (c.loop-number.number - 0) (g.D.HoldsPayloads.held.lists c.read_at.new.self)) c.read_at.new.input.now) same c.in_ok-payloads.ensures.read) in
    record {
      size = ap length others ∙ length-set (g.D.HoldsPayloads.held.lists c.loop-number.self.payloads) c.loop-number.number _ ∙ all;
      variants = c.loop-number.invariant.variants;
      read = subst (λ n. ReadTo g.T.Enum.each.variants.shapes (variants_left c.read.new.self) c.read.new.input.now n (g.D.HoldsPayloads.held.lists c.read_at.new.self) c.read_at.new.input.now) next
          (read_next g.T.Enum.each.variants.shapes (variants_left c.read.new.self) c.read.new.input.now c.loop-number.number (g.D.HoldsPayloads.held.lists c.loop-number.self.payloads) c.loop-number.input.now c.loop-number.invariant.read
          (omega (arith, known, below)) (g.D.HoldsPayloads.held.lists c.read_at.new.self) c.read_at.new.input.now (omega (arith, known, all))
          others
          (subst (λ k. Reads (Spells (shape_at c.loop-number.number g.T.Enum.each.variants.shapes)) k c.loop-number.input.now (payloads_of c.loop-number.number (g.D.HoldsPayloads.held.lists c.read_at.new.self)) c.read_at.new.input.now) counted
          read));
      rest = ends_further c.loop-number.invariant.rest (ends_read c.in_ok-payloads.ensures.read);
      free = subst (λ n. c.read_at.new.free ≡ saturated (free_to n g.T.Enum.each.variants.shapes (g.D.HoldsPayloads.held.lists c.read_at.new.self))) next
          (counted_next c.loop-number.number g.T.Enum.each.variants.shapes (g.D.HoldsPayloads.held.lists c.loop-number.self.payloads) (g.D.HoldsPayloads.held.lists c.read_at.new.self)
          c.loop-number.free c.read_at.new.free (omega (arith, known, below)) (omega (arith, known, all)) others c.loop-number.invariant.free
          (subst (λ n. c.read_at.new.free ≡ saturated (c.loop-number.free + free_count (shape_at c.loop-number.number g.T.Enum.each.variants.shapes) (payloads_of n (g.D.HoldsPayloads.held.lists c.read_at.new.self))))
          (from_zero c.loop-number.number)
          (subst (λ s. c.read_at.new.free ≡ saturated (c.loop-number.free + free_count s (payloads_of (c.loop-number.number - 0) (g.D.HoldsPayloads.held.lists c.read_at.new.self)))) same c.in_ok-payloads.ensures.counted)));
      judged = λ strict. subst (λ n. JudgedTo g.T.Enum.each.variants.shapes c.read.new.input.now c.in_ok-written.written n (g.D.HoldsPayloads.held.lists c.read_at.new.self) c.both-written.result c.read_at.new.input.now) next
          (subst (λ w. JudgedTo g.T.Enum.each.variants.shapes c.read.new.input.now c.in_ok-written.written (suc c.loop-number.number) (g.D.HoldsPayloads.held.lists c.read_at.new.self) w c.read_at.new.input.now) (sym c.both-written.ensures)
          (judged_next g.T.Enum.each.variants.shapes c.read.new.input.now c.in_ok-written.written c.loop-number.number (g.D.HoldsPayloads.held.lists c.loop-number.self.payloads) c.loop-number.written c.loop-number.input.now
          (c.loop-number.invariant.judged strict) (omega (arith, known, below)) (g.D.HoldsPayloads.held.lists c.read_at.new.self) c.read_at.new.input.now (omega (arith, known, all))
          others c.in_ok-payloads.payloads
          (subst (λ n. JudgesData (shape_at c.loop-number.number g.T.Enum.each.variants.shapes) (payloads_of n (g.D.HoldsPayloads.held.lists c.read_at.new.self)) c.in_ok-payloads.payloads c.loop-number.input.now c.read_at.new.input.now) (from_zero c.loop-number.number)
          (subst (λ s. JudgesData s (payloads_of (c.loop-number.number - 0) (g.D.HoldsPayloads.held.lists c.read_at.new.self)) c.in_ok-payloads.payloads c.loop-number.input.now c.read_at.new.input.now) same (c.in_ok-payloads.ensures.judged strict)))));
    }

pub returns-clause-read : goal.returns-clause-read
returns-clause-read g c =
    let past = c.loop-number-test.false in
    let below = g.met.T.EnumOf.counted.0 in
    let all = c.loop-number.invariant.size in
    subst (λ v. Reads (Spells (choice_shape g.T.Enum.each.variants.shapes)) c.args.k c.args.input.now.now (choices_of (variants_left v) (g.D.HoldsPayloads.held.lists c.loop-number.self.payloads)) c.loop-number.input.now) (sym c.loop-number.invariant.variants)
    (reads_enum g.T.Enum.each.variants.shapes g.row.N c.args.k c.args.input.now.now g.met.T.EnumOf.counted.0 _ _ c.in_ok-written.ensures.read _ _
    (read_all g.T.Enum.each.variants.shapes (variants_left c.read.new.self) c.read.new.input.now c.loop-number.number (g.D.HoldsPayloads.held.lists c.loop-number.self.payloads) c.loop-number.input.now c.loop-number.invariant.read (omega (arith, past, below)) (omega (arith, past, all))))

pub returns-clause-counted : goal.returns-clause-counted
returns-clause-counted g c =
    let past = c.loop-number-test.false in
    let below = g.met.T.EnumOf.counted.0 in
    let all = c.loop-number.invariant.size in
    let read = read_all g.T.Enum.each.variants.shapes (variants_left c.read.new.self) c.read.new.input.now c.loop-number.number (g.D.HoldsPayloads.held.lists c.loop-number.self.payloads) c.loop-number.input.now c.loop-number.invariant.read (omega (arith, past, below)) (omega (arith, past, all)) in
    subst (λ v. saturated c.loop-number.free ≡ saturated (free_count (choice_shape g.T.Enum.each.variants.shapes) (choices_of (variants_left v) (g.D.HoldsPayloads.held.lists c.loop-number.self.payloads)))) (sym c.loop-number.invariant.variants)
    (counted_all g.T.Enum.each.variants.shapes g.row.N c.args.k c.args.input.now.now g.met.T.EnumOf.counted.0 _ _ c.in_ok-written.ensures.read _ _ read
    c.loop-number.number c.loop-number.free (omega (arith, past, below)) c.loop-number.invariant.free)

pub returns-clause-judged : goal.returns-clause-judged
returns-clause-judged g c = λ strict.
    let past = c.loop-number-test.false in
    let below = g.met.T.EnumOf.counted.0 in
    let all = c.loop-number.invariant.size in
    let read = read_all g.T.Enum.each.variants.shapes (variants_left c.read.new.self) c.read.new.input.now c.loop-number.number (g.D.HoldsPayloads.held.lists c.loop-number.self.payloads) c.loop-number.input.now c.loop-number.invariant.read (omega (arith, past, below)) (omega (arith, past, all)) in
    subst (λ v. JudgesData (choice_shape g.T.Enum.each.variants.shapes) (choices_of (variants_left v) (g.D.HoldsPayloads.held.lists c.loop-number.self.payloads)) c.loop-number.written c.args.input.now.now c.loop-number.input.now) (sym c.loop-number.invariant.variants)
    (judged_all g.T.Enum.each.variants.shapes c.read.new.input.now c.in_ok-written.written c.loop-number.number (g.D.HoldsPayloads.held.lists c.loop-number.self.payloads) c.loop-number.written c.loop-number.input.now
    (c.loop-number.invariant.judged strict) (omega (arith, past, below)) (omega (arith, past, all)) g.row.N g.met.T.EnumOf.counted.0 _ _ c.in_ok-written.ensures.read read (c.in_ok-written.ensures.judged strict))
