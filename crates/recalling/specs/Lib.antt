-- What is read from a kept place.
pub mod Recalled
