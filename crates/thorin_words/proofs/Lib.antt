pub mod Bare
pub mod Numerals
pub mod Splitting
pub mod Standing
