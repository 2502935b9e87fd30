pub mod Pieces
pub mod Ends
pub mod Calls
