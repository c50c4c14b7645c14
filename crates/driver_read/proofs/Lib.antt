pub mod Ends
pub mod Loads
pub mod Putting
pub mod Outcomes
pub mod Finish
