pub mod Appending
pub mod Reading
pub mod Starting
pub mod Words
pub mod Searching
pub mod Putting
