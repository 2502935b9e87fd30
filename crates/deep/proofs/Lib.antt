pub mod Nested
pub mod Turn
pub mod Around
