-- The code's states and answers, set beside the rules; and what is promised of them.
pub mod View
pub mod Promises
