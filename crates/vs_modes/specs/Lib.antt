pub mod Moments
pub mod Output
pub mod Refusals
pub mod Modes
pub mod Recover
pub mod Info
pub mod Discard
