pub mod Completing
pub mod Getters
pub mod Matched
pub mod Rules
