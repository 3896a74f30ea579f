mod Sections
mod Kept
mod Offsets
pub mod Opened
mod Meant
pub mod Lists
pub mod Accepted
pub mod Proven
