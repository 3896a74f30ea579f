pub mod Cuts
pub mod Hex
pub mod Lines
pub mod Printed
pub mod Spelling
