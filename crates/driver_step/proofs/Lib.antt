pub mod Opening
pub mod Passing
pub mod Ending
pub mod Taking
