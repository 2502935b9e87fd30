-- The code's answer set beside the rules', and what is promised of it.
pub mod Answer
pub mod Promises
