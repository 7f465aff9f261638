pub mod AheadLemmas
pub mod GapLemmas
pub mod HeldLemmas
pub mod LinesLemmas
