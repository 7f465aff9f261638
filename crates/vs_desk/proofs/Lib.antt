pub mod Stillness
pub mod Spared
pub mod Left
pub mod Above
pub mod Naming
pub mod Keeping
