pub mod Indexes
pub mod UnitBytes
pub mod Packages
