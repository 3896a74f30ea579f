pub mod Buckets
pub mod Entries
pub mod EntryTests
pub mod IndexText
pub mod ReadBack
pub mod ReadRows
pub mod Rows
