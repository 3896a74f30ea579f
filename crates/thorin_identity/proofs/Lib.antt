pub mod Parts
pub mod Cut
