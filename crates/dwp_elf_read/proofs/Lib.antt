pub mod Compared
pub mod Places
pub mod ShortNames
