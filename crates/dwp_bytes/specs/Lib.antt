pub mod Encoding
pub mod Input
pub mod Leb
pub mod Relocation
pub mod StringOffsets
