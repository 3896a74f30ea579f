pub mod Loops
pub mod Numbers
