pub mod WritingLemmas
pub mod ReadingLemmas
pub mod ColumnLemmas
pub mod PayloadReadingLemmas
pub mod VariantLemmas
pub mod StrictLemmas
pub mod ColumnFreeLemmas
