pub mod Bytes
pub mod Back
pub mod Elsewhere
pub mod Keep
