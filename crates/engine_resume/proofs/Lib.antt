pub mod Storing
pub mod Judging
pub mod Entering
pub mod Resuming
