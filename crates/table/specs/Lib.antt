-- The rules of the code's table, set beside the document's.
pub mod View
