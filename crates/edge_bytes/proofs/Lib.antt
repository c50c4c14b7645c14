pub mod Coding
pub mod RoundTrip
