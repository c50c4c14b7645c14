pub mod ByteCalls
pub mod Demand3
