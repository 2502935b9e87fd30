pub mod Frauds
pub mod Waiting
