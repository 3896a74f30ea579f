pub mod AbbreviationCodes
pub mod Units
