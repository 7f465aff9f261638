pub mod Pages
pub mod PageLaws
pub mod Still
pub mod Writes
pub mod Counts
