pub mod Documents
pub mod Fed
pub mod Limits
pub mod Scan
pub mod Text
