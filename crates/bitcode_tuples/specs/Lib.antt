pub mod Pairs
pub mod PairLaws
pub mod FieldLaws
