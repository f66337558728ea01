pub mod Tokens
pub mod Lines
pub mod Messages
