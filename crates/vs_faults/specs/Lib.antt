pub mod Faults
pub mod OneCause
