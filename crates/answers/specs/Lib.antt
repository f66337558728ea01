pub mod Texts
pub mod Adds
