pub mod Indexing
pub mod Retracting
