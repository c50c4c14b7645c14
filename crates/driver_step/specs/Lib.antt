pub mod Step
pub mod Values
pub mod Loads
