-- What refuses the question; and what is promised of its answer.
pub mod Asked
pub mod Promises
