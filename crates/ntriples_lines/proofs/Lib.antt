pub mod Answers
pub mod ByFirst
pub mod Lines
