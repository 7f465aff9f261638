pub mod Names
pub mod Images
pub mod Turns
pub mod Begun
pub mod Quits
pub mod Both
pub mod Parties
