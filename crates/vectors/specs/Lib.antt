-- What a line has of bytes that are too many for it.
pub mod Hash
