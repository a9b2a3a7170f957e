pub mod Filters
pub mod Sides
pub mod Luma4
pub mod Slope
pub mod Luma16
pub mod Chroma
