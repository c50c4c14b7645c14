pub mod Sizes
pub mod Program
pub mod Promises
