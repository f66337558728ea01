pub mod Keywords
pub mod Lines
pub mod Words
pub mod Numerals
