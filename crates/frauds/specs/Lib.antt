pub mod Frauds
