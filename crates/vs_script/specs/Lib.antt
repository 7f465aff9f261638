pub mod Ahead
pub mod Reads
pub mod Block
pub mod Feed
pub mod Requests
pub mod Script
