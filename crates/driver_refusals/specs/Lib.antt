pub mod Lent
pub mod RunRefusals
