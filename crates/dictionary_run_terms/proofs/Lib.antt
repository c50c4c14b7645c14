pub mod Places
pub mod Counting
pub mod Fitting
pub mod Running
