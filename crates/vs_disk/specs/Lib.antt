pub mod Faults
pub mod Images
pub mod Names
pub mod Runs
pub mod Modes
