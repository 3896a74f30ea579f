pub mod Objects
pub mod Probing
pub mod Table
pub mod Columns
