pub mod Outcome
pub mod Loading
pub mod Answering
pub mod Terming
