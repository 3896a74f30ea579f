pub mod EveryKind
pub mod Bools
pub mod Steps
pub mod Finds
pub mod KindsRead
pub mod Rounds
