pub mod Lines
pub mod Going
pub mod Taking
pub mod LineKinds
pub mod Blocks
pub mod Feeding
pub mod Commands
pub mod ReadLemmas
