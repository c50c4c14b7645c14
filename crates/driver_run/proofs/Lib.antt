pub mod PuttingAll
pub mod Running
pub mod Accepting
