pub mod Calls
pub mod Outward
pub mod Trails
