pub mod Within
pub mod Lsb
pub mod Cycle
pub mod Counts
pub mod OfSlice
