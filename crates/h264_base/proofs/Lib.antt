pub mod Chains
pub mod Rows
pub mod Words
pub mod Steps
pub mod Reading
pub mod OneAnswer
pub mod Plain
pub mod Gives
