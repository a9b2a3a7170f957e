pub mod Noting
pub mod Matching
pub mod Sizes
pub mod Adding
pub mod Equal
pub mod Again
