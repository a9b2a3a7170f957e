pub mod Vectors
pub mod Derived
pub mod Agrees
pub mod Inter
pub mod Partitions
