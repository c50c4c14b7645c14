pub mod ByDigits
pub mod DigitLoops
pub mod ContainerTerms
pub mod Cases
