pub mod ReadingLemmas
pub mod WritingLemmas
pub mod StructLemmas
pub mod FieldLemmas
