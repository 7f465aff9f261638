pub mod Pointers
pub mod Standing
