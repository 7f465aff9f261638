pub mod Lives
pub mod Numbers
pub mod Started
