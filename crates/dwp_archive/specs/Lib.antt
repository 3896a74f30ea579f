pub mod Answers
pub mod Entries
pub mod Headers
pub mod Members
pub mod Names
pub mod Texts
pub mod View
