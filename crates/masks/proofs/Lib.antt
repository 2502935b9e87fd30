pub mod Bits
pub mod Stations
