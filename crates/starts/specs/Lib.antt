-- What the start records of a log ask.
pub mod Room
