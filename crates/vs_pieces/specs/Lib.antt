pub mod Files
pub mod Reader
pub mod Whole
