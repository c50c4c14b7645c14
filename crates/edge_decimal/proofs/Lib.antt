pub mod Digits
pub mod Numerals
pub mod Reading
pub mod Writing
