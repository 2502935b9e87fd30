pub mod Variables
pub mod Walk
pub mod Sound
