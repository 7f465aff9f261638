pub mod Backups
pub mod Desks
pub mod Ends
pub mod Modes
pub mod Works
pub mod Writing
