pub mod Rows
pub mod Chains
pub mod Layout
pub mod Store
pub mod Zeros
pub mod Added
