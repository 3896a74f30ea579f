pub mod Checked
pub mod Packages
pub mod Told
