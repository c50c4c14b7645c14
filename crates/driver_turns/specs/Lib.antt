pub mod Turns
pub mod Values
pub mod Admission
pub mod Sequence
