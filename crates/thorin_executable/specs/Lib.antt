pub mod Sections
pub mod Paths
pub mod Skeletons
pub mod View
pub mod Relocations
