pub mod Sessions
pub mod Multi
pub mod Opening
pub mod Steps
