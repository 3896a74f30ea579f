pub mod Changes
pub mod ReadingBack
pub mod SoFar
