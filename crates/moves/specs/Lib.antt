-- What running a body is, beside the rules' count of records.
pub mod Body
