pub mod Places
pub mod Differences
pub mod Numbers
pub mod Given
pub mod Compared
pub mod Opened
pub mod Stands
