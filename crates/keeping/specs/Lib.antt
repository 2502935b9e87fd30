-- What a buffer must have for a state to be kept in it.
pub mod Place
