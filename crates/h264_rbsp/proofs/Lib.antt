pub mod Searches
pub mod Faults
pub mod Told
pub mod Places
pub mod Unescapes
pub mod Sizes
pub mod Placed
