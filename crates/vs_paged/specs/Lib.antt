pub mod Pages
pub mod Turns
pub mod Fits
