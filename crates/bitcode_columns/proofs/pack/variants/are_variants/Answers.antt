use Rattle.std.proofs.Common.{sym, ◌∙◌, arith}
use Rattle.std.proofs.lemmas.Bool.{le-leb}
use Rattle.bitcode_columns.specs.Digits.{radix}
use Rattle.bitcode_columns.proofs.VariantColumnLemmas.{digits_known}
use Rattle.bitcode_columns.proofs.pack.variants.are_variants.Goals as goal

pub returns-then-from-variants : goal.returns-then-from-variants
returns-then-from-variants c =
    le-leb c.from.result c.args.variants c.if-from-variants.true
    ∙ sym (digits_known c.args.variants (radix c.args.base) c.args.entries.now (omega (arith, c.radix.ensures, c.from.ensures, c.if-from-variants.true)) c.requires)
