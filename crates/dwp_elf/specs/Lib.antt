pub mod Contents
pub mod FileText
pub mod Growing
pub mod Numbers
pub mod Object
pub mod Refusals
pub mod Written
