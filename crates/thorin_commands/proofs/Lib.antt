mod Causes
pub mod Lines
mod Readable
mod Warned
