pub mod Walking
pub mod NewUnitLemmas
pub mod Ends
pub mod RowContributions
