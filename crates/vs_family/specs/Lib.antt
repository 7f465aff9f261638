pub mod Family
pub mod Pieces
