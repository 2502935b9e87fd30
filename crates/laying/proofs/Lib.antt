pub mod Chunks
pub mod Written
pub mod Passes
