pub mod Faults
pub mod Saves
