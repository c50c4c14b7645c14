pub mod Closed
pub mod Values
pub mod Loads
