-- What the check finds is what the bytes spell, and whether they are those that are written.
use Rattle.std.proofs.Common.{refl, sym, ◌∙◌}
use Rattle.std.proofs.lemmas.Bool.{false≢true}
use Rattle.std.proofs.lemmas.Result.{err_from_is_err_and}
use Rattle.bitcode_derive.proofs.DecodingLemmas.{spells_at_most_one, bounded_by_bytes}
use Rattle.bitcode_derive.specs.Strict.{other_bytes}
use Rattle.bitcode_schema.specs.Forms.{shape_of}
use Rattle.bitcode_schema.proofs.CheckLemmas.{named_strictly}
use Rattle.bitcode_schema.proofs.SoundLemmas.{sound_node}
use Rattle.bitcode_schema.proofs.check.check_value_strict.Goals as goal

pub returns-in_err-written-clause-unambiguous : goal.returns-in_err-written-clause-unambiguous
returns-in_err-written-clause-unambiguous c = spells_at_most_one (shape_of c.args.schema.now.root) c.args.bytes.now

pub returns-in_err-written-clause-bounded : goal.returns-in_err-written-clause-bounded
returns-in_err-written-clause-bounded c =
    bounded_by_bytes (shape_of c.args.schema.now.root) c.args.bytes.now (sound_node c.args.schema.now.root c.args.schema.now.accepted.variants)

pub returns-in_err-written-clause-refused : goal.returns-in_err-written-clause-refused
returns-in_err-written-clause-refused c =
    let refused = err_from_is_err_and c.from_residual.result c.from_residual.ensures.1 in
    rw (refused.1, refused.2) (named_strictly (shape_of c.args.schema.now.root) c.args.bytes.now _ c.in_err-written.ensures.exact)

pub returns-then-not-written-clause-unambiguous : goal.returns-then-not-written-clause-unambiguous
returns-then-not-written-clause-unambiguous c = spells_at_most_one (shape_of c.args.schema.now.root) c.args.bytes.now

pub returns-then-not-written-clause-bounded : goal.returns-then-not-written-clause-bounded
returns-then-not-written-clause-bounded c =
    bounded_by_bytes (shape_of c.args.schema.now.root) c.args.bytes.now (sound_node c.args.schema.now.root c.args.schema.now.accepted.variants)

pub returns-then-not-written-clause-refused : goal.returns-then-not-written-clause-refused
returns-then-not-written-clause-refused c =
    let q = c.in_ok-written.ensures.spelled in
    rw c.err.ensures
    (other_bytes refl (record { datum = q.0; spelled = q.1.0; other = λ s. false≢true (sym c.if-not-written.true ∙ (q.1.1 refl).1 s) }))

pub returns-then-not-written-clause-exact : goal.returns-then-not-written-clause-exact
returns-then-not-written-clause-exact c = rw c.err.ensures (λ other. absurd (other refl))

pub returns-clause-spelled : goal.returns-clause-spelled
returns-clause-spelled c = let q = c.in_ok-written.ensures.spelled in (q.0, (q.1.1 refl).0 c.if-not-written.false)

pub returns-clause-unambiguous : goal.returns-clause-unambiguous
returns-clause-unambiguous c = spells_at_most_one (shape_of c.args.schema.now.root) c.args.bytes.now

pub returns-clause-bounded : goal.returns-clause-bounded
returns-clause-bounded c =
    bounded_by_bytes (shape_of c.args.schema.now.root) c.args.bytes.now (sound_node c.args.schema.now.root c.args.schema.now.accepted.variants)
