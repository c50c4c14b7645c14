pub mod Marks
pub mod Saying
