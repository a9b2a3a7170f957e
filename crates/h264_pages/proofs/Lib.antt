pub mod Entries
pub mod Choosing
pub mod Surveying
pub mod Growing
pub mod Lines
pub mod Decimals
