pub mod Least
pub mod Kept
pub mod Turns
pub mod Room
pub mod Filling
pub mod Missing
pub mod Moving
