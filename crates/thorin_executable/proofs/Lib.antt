pub mod SamePaths
pub mod ByPlace
pub mod NamedSteps
