pub mod Folders
pub mod Present
pub mod Replay
pub mod Memory
pub mod Bases
pub mod Hosts
pub mod Validity
pub mod Images
