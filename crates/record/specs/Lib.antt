-- The code's records and refusals, set beside the rules.
pub mod Bytes
pub mod Refusals
pub mod View
