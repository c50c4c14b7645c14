pub mod Run
pub mod Values
