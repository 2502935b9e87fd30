pub mod Reached
pub mod Lit
