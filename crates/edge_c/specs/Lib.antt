pub mod Calls
pub mod Forwarded
pub mod Values
