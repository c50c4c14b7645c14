pub mod Turns
pub mod TurnCases
