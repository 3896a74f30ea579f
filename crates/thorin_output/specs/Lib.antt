pub mod Files
pub mod Reads
pub mod Warnings
