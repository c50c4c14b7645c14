pub mod Turns
pub mod Abstraction
pub mod Growth
pub mod Unbroken
pub mod Demand3
pub mod Starred
