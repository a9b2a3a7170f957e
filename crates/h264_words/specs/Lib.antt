pub mod Labels
pub mod ListWords
pub mod Options
pub mod Words
