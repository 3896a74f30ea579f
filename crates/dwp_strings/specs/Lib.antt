pub mod Strings
pub mod Marks
pub mod Chunks
pub mod Places
pub mod Hashed
pub mod Ends
