-- The laws of variant columns.
use Rattle.std.proofs.Common.{refl}
use Rattle.bitcode_columns.specs.VariantColumn.{variant_text}
use Rattle.bitcode_columns.proofs.VariantColumnLemmas.{SpellsVariants-unambiguous, SpellsVariants-size_bound, variants_fault-refuses, variant_text-spells}
use Rattle.bitcode_columns.proofs.laws.variant_columns.Goals as goal

pub returns-clause-round_trip : goal.returns-clause-round_trip
returns-clause-round_trip c variants entries rest some few known =
    record { size = refl; piece = variant_text variants entries; whole = refl; spelled = variant_text-spells variants entries some few known }

pub returns-clause-unambiguous : goal.returns-clause-unambiguous
returns-clause-unambiguous c = SpellsVariants-unambiguous

pub returns-clause-size_bound : goal.returns-clause-size_bound
returns-clause-size_bound c = SpellsVariants-size_bound

pub returns-clause-refused : goal.returns-clause-refused
returns-clause-refused c = variants_fault-refuses
