pub mod Hands
pub mod Calls
pub mod Kept
pub mod Sessions
pub mod Runs
