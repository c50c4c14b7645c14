pub mod Sizes
pub mod Input
pub mod Output
pub mod Promises
pub mod Cases
