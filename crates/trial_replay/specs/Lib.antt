pub mod Cells
pub mod Made
pub mod Text
