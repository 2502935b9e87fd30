pub mod Refused
pub mod Only
