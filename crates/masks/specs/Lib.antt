-- The masks of the stations from one on.
pub mod Masks
