pub mod Strides
pub mod Walk
pub mod Whole
pub mod Flat
pub mod Back
pub mod Counted
pub mod Passed
pub mod One
