-- The code's tracers, set beside the rules; the order of what is printed; and what is claimed of it.
pub mod Tracing
pub mod View
pub mod Claims
