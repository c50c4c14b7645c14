pub mod Values
pub mod Found
