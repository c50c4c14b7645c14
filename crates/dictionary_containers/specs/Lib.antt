pub mod Containers
pub mod ByDigits
pub mod Cases
