pub mod Told
pub mod Folds
pub mod Keeps
