pub mod Held
pub mod ReadAgain
