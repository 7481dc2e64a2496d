pub mod CanonicalLemmas
pub mod LaneLemmas
pub mod SplitLemmas
