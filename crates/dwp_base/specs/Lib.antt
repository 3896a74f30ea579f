pub mod ByKind
pub mod Numbers
pub mod Reading
pub mod Sections
