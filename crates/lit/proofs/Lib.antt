pub mod Inside
pub mod Bodies
pub mod Bits
pub mod Touched
pub mod Shown
pub mod Only
pub mod Split
pub mod Waiting
