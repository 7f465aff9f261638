pub mod Calls
pub mod Splices
pub mod State
pub mod Texts
pub mod Undoing
