pub mod Terms
pub mod Tables
pub mod Places
pub mod Values
