pub mod Run
pub mod Packed
pub mod Groups
pub mod Again
pub mod Unfinished
pub mod Differing
pub mod MeaningRead
