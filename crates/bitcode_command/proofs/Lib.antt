-- Lemmas of the command.
mod PlacingLemmas
mod EntryLemmas
