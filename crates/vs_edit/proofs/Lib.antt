pub mod FileForm
pub mod SpliceLemmas
pub mod Steps
pub mod UndoingLemmas
