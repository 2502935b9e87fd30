-- What a trace comes to, in the rules' words; the code's answer set beside it; and what is claimed of it.
pub mod Reaching
pub mod View
pub mod Claims
