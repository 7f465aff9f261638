pub mod Ended
pub mod Files
pub mod ReadLines
pub mod Reading
