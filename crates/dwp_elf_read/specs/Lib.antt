pub mod Layout
pub mod Identification
pub mod Elf
pub mod Relocation
pub mod Symbol
pub mod View
pub mod Compared
