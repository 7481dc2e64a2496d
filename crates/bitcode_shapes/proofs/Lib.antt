pub mod CheckedLemmas
