pub mod Past
pub mod Known
