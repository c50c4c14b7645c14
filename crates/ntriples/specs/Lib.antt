pub mod Utf8
pub mod Characters
pub mod Grammar
pub mod Reading
pub mod Nodes
pub mod Files
pub mod Cases
