pub mod Faults
pub mod Steps
pub mod Table
pub mod Values
