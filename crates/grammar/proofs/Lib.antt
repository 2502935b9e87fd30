pub mod Made
pub mod Taken
pub mod Continued
pub mod Placed
pub mod Deep
pub mod Checked
pub mod Meant
