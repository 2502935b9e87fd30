pub mod Judged
pub mod Known
pub mod Refused
