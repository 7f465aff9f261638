pub mod Changes
pub mod Loads
