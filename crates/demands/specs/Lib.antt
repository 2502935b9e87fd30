pub mod Computation
pub mod Order
pub mod Runs
pub mod Does
pub mod Written
pub mod Lights
pub mod Demands
pub mod Only
