mod Counted
mod Fronts
