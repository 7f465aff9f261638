pub mod OutputLaws
pub mod Phases
pub mod Removing
pub mod RefusalLaws
pub mod DiscardLaws
pub mod RecoverLaws
pub mod OnceLaws
