pub mod Pairs
pub mod Findings
