pub mod Reading
pub mod Rest
pub mod Plain
pub mod Grammar
pub mod Reads
pub mod Scripts
pub mod Whole
