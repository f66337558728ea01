pub mod Printed
pub mod Spaced
pub mod Figures
pub mod RowLines
pub mod ReadBack
