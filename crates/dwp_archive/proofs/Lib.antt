pub mod Beginnings
mod Decimals
mod Entering
