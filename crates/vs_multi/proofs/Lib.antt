pub mod Beside
pub mod Steps
pub mod Opens
