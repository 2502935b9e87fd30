pub mod Opened
pub mod Few
pub mod Together
pub mod Enough
