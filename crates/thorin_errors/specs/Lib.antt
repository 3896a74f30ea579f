pub mod Errors
pub mod Answers
pub mod Inputs
pub mod Text
