-- What a step touches.
pub mod Touched
