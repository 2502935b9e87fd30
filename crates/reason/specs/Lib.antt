-- The code's reasons, set beside the rules.
pub mod View
