pub mod Grammar
pub mod Meaning
