pub mod GoingLemmas
pub mod OutLemmas
pub mod LedLemmas
pub mod TriedLemmas
pub mod FitLemmas
pub mod TurnLemmas
pub mod CountLemmas
