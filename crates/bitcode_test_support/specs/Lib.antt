pub mod Foo
pub mod One
pub mod Two
