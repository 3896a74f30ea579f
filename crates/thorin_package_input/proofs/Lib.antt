pub mod Rows
pub mod ReadAlike
