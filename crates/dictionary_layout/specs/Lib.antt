pub mod Terms
pub mod Layout
pub mod Dictionary
pub mod Calls
pub mod Values
pub mod Digest
