pub mod Zeros
pub mod Stores
pub mod Escapes
pub mod Suffixes
pub mod Texts
