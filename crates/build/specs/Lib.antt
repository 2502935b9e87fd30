pub mod View
pub mod Promises
