pub mod Finding
pub mod Numbers
pub mod Places
pub mod Tables
pub mod Placing
