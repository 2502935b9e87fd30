-- The code's readiness, set beside the rules.
pub mod View
