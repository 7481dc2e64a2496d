pub mod IntLemmas
pub mod PushedIntLemmas
pub mod CheckedLemmas
