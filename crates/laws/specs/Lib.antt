pub mod Passed
pub mod Tells
pub mod Number
pub mod Narrow
pub mod Parts
