pub mod Checks
pub mod Faults
pub mod Format
pub mod Fitting
pub mod Records
pub mod Parts
pub mod Loads
