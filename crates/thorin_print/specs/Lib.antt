pub mod Answers
pub mod Failures
pub mod Lines
pub mod Shown
pub mod Spelled
pub mod Told
pub mod Watching
