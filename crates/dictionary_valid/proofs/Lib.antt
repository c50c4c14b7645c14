pub mod Naming
pub mod Scanning
pub mod Refusing
pub mod Checking
pub mod Beginning
pub mod Validity
