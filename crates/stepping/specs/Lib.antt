-- A step past its tests of the list and the state.
pub mod Logged
