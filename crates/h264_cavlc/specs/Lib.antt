pub mod Token
pub mod Level
pub mod Zeros
pub mod Place
pub mod Block
