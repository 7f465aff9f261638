pub mod Chunks
pub mod Entries
pub mod Headers
pub mod Reading
pub mod Slots
pub mod Writing
pub mod Written
