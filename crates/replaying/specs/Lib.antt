-- What a replay makes of the parts of a state.
pub mod Replayed
