pub mod Beside
pub mod Both
pub mod Parties
