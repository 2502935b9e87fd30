pub mod Runs
pub mod Replays
pub mod Only
pub mod Judged
pub mod Parts
