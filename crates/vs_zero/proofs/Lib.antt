pub mod Contents
pub mod ReadingLaws
pub mod RoundTrip
