pub mod True
pub mod Steps
