-- A law that the proof of the test rests on.
pub mod Outside
