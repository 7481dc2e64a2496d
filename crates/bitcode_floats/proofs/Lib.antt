mod NumberLemmas
pub mod FloatLemmas
pub mod DirectLemmas
