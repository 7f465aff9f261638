pub mod Items
pub mod Finds
pub mod Salvage
