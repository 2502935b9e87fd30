pub mod Built
pub mod Targets
