mod Ran
mod Told
