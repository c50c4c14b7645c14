pub mod Order
pub mod Sorted
pub mod Steps
pub mod Answer
