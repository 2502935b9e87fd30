-- The lights of the code, set beside those of the rules; and what is promised of them.
pub mod View
pub mod Promises
