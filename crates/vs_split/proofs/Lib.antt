pub mod Divided
pub mod Tags
