pub mod Offends
pub mod Laws
