pub mod Language
pub mod Rests
pub mod Claims
