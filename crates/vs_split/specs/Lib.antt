pub mod Split
pub mod Tags
