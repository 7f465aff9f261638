pub mod CutLemmas
pub mod ReadLemmas
pub mod SearchLemmas
