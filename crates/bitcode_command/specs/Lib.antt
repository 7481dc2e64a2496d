-- What contracts of the command speak of.
pub mod Placing
pub mod Columns
