pub mod Doing
pub mod Programs
pub mod Settings
pub mod Telling
