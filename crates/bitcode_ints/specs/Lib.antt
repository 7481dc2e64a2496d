pub mod Int
pub mod U8Char
pub mod CheckedColumn
