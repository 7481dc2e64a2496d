pub mod MinmaxLemmas
pub mod ConsumeLemmas
pub mod IntLemmas
pub mod LittleEndianLemmas
pub mod UnalignedLemmas
pub mod MemoryLemmas
pub mod MemoryLentLemmas
pub mod PlacesLemmas
