pub mod Remapping
