pub mod FloatColumn
pub mod Split
