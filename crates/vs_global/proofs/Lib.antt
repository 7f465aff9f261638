pub mod CarryLemmas
pub mod GlobalLemmas
pub mod MarkingLemmas
pub mod MoveLemmas
pub mod PlacesLemmas
mod Rows
pub mod WholeLemmas
