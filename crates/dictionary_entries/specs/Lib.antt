pub mod Entries
pub mod Starting
