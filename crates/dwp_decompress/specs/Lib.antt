pub mod Agreement
pub mod Answers
pub mod Asked
pub mod Compressed
pub mod Headers
pub mod Names
pub mod Result
pub mod Sizes
