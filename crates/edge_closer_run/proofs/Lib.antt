pub mod Names
pub mod Printing
pub mod Room
pub mod Enough
