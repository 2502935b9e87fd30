pub mod Known
pub mod Lower
