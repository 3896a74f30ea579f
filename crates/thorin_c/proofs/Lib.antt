pub mod Lists
pub mod Files
