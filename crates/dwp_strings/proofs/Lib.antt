pub mod Named
pub mod Hashed
pub mod Lanes
pub mod Chunks
