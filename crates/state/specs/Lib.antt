-- The code's states, set beside the rules.
pub mod View
