pub mod EachLabel
pub mod Given
mod InTurn
mod Taken
