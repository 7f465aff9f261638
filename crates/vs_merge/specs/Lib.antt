pub mod Evens
pub mod Forests
pub mod Roots
pub mod Texts
pub mod Tidies
