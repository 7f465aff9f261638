pub mod Families
pub mod Listed
pub mod Spelling
