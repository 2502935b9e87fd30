pub mod Records
pub mod Known
