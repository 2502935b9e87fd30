pub mod Replay
pub mod Calls
pub mod Written
pub mod Stack
pub mod Undone
pub mod Follows
pub mod Back
pub mod Passed
