pub mod AnswerLemmas
pub mod GoalLemmas
pub mod LinkLemmas
pub mod MeaningLemmas
pub mod NearbyLemmas
pub mod NumberLemmas
pub mod SavedLemmas
pub mod ShowingLemmas
