pub mod Calls
pub mod Written
pub mod Back
pub mod Passed
