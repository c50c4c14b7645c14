pub mod Writing
pub mod Calls
pub mod RoundTrip
pub mod Cases
