-- An option is written as its variant, and then its value where it has one.
use Rattle.std.proofs.Common.{map, ap, refl, ◌++◌, [], ◌∷◌}
use Rattle.std.proofs.lemmas.Result.{err_from_is_err_and}
use Rattle.bitcode_shapes.specs.Datum.{unit}
use Rattle.bitcode_shapes.specs.Choices.{option_variant}
use Rattle.bitcode_coder.specs.Columns.{no_columns, one, two, variants}
use Rattle.bitcode_coder.specs.Spelling.{natural}
use Rattle.bitcode_coder.proofs.RefusalLemmas.{refusal_weaker}
use Rattle.bitcode_parts.specs.Variants.{written_variants}
use Rattle.bitcode_parts.proofs.OneOptionLemmas.{none_is_0, some_is_1, option_bytes}
use Rattle.bitcode_parts.proofs.TwoVariantLemmas.{first_joins, second_joins, second_overflows}
use Rattle.bitcode_parts.proofs.choices.option.OptionEncoderEncoderOption.write_directly.Goals as goal

pub returns-in_err-write_one-in-Some-clause-refused : goal.returns-in_err-write_one-in-Some-clause-refused
returns-in_err-write_one-in-Some-clause-refused g c =
    let refused = err_from_is_err_and c.from_residual-in_err-write_one-in-Some.result c.from_residual-in_err-write_one-in-Some.ensures.1 in
    rw (refused.1, refused.2) (refusal_weaker _ (second_overflows option_variant _ (ap option_variant c.in-Some.is)) c.in_err-write_one-in-Some.ensures.refused)

pub returns-in_ok-collect_into-in-None-clause-written : goal.returns-in_ok-collect_into-in-None-clause-written
returns-in_ok-collect_into-in-None-clause-written g c done =
    let entries = written_variants c.args.self.now.variants in
    let some = g.E.HoldsColumns.columns c.args.self.now.some in
    record {
      new = two (one (variants 2) (map natural (entries ++ 0 ∷ []))) (two no_columns (two some no_columns));
      joined =
          first_joins option_variant entries (ap option_variant c.in-None.is) (g.met.E.Encoder.of_shape c.args.self.now.some) refl
          (record { datum = unit; listing = refl; joined = refl; fits = λ f. f });
      written =
          option_bytes entries some c.requires 0 some c.args.out.now.items c.push.new.self.items c.collect_into.new.out.items none_is_0
          c.in_ok-push-in-None.ensures.items c.in_ok-collect_into-in-None.ensures.written;
    }

pub returns-in_ok-write_one-in-Some-clause-written : goal.returns-in_ok-write_one-in-Some-clause-written
returns-in_ok-write_one-in-Some-clause-written g c done =
    let entries = written_variants c.args.self.now.variants in
    let some = g.E.HoldsColumns.columns c.args.self.now.some in
    let value = c.in_ok-write_one-in-Some.ensures.written in
    record {
      new = two (one (variants 2) (map natural (entries ++ 1 ∷ []))) (two no_columns (two value.new no_columns));
      joined = second_joins option_variant entries (ap option_variant c.in-Some.is) refl refl value.joined;
      written =
          option_bytes entries some c.requires 1 value.new c.args.out.now.items c.push-in-Some.new.self.items c.write_one.new.out.items some_is_1
          c.in_ok-push-in-Some.ensures.items value.written;
    }
