pub mod Fitting
pub mod Answers
pub mod Abstraction
pub mod Reading
pub mod Demand3
