pub mod Cases
pub mod Looking
pub mod Refusals
pub mod Accepting
