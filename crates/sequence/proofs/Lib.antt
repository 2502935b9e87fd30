pub mod Below
pub mod Chunks
pub mod Tests
pub mod Only
