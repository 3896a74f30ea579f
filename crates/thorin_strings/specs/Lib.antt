pub mod StringOffsets
pub mod Rewritten
pub mod Known
pub mod Written
