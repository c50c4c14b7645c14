pub mod Turns
pub mod Lawful
pub mod TurnCases
