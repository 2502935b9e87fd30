-- What advancing a lent state leaves, set beside the rules, and what is promised of it.
pub mod View
pub mod Promises
