pub mod CheckedFields
pub mod FieldListings
pub mod Skipped
