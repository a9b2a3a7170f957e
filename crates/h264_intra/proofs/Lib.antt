pub mod Border4
pub mod Means
pub mod Same4
pub mod Gradient
pub mod Bounds
pub mod Totals
pub mod Whole
pub mod Depends
