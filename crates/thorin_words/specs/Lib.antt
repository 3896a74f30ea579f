pub mod Identifiers
pub mod Printed
pub mod Responses
pub mod Words
