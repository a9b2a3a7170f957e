pub mod Residual
pub mod Dc
pub mod Fours
pub mod Lanes
pub mod Macroblock
