pub mod Fair
pub mod Charged
pub mod Taken
pub mod Sound
pub mod Relation
