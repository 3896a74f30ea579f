pub mod Terms
pub mod Units
pub mod Readings
