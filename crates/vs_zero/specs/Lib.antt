pub mod Layout
pub mod Name
pub mod Zero
