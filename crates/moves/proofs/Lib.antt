-- Laws that the proofs of the functions share, and the theorem on bodies.
pub mod Turns
pub mod Bodies
