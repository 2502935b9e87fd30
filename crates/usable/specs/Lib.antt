-- When the state in a kept place may be gone on from.
pub mod Usable
