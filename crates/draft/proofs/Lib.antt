pub mod Edited
pub mod Opened
