pub mod Narrowing
pub mod IntHeader
