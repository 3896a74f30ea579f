pub mod Files
pub mod Finding
pub mod Lines
pub mod Listing
pub mod Names
