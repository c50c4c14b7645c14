pub mod Entries
pub mod Texts
pub mod Writing
pub mod Measuring
pub mod Outcomes
