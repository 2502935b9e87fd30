pub mod Left
pub mod Seek
