pub mod Pairing
pub mod Counting
pub mod Appending
pub mod Scanning
pub mod Giving
pub mod Whole
