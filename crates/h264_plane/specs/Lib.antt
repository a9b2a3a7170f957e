pub mod Samples
pub mod Frames
pub mod Lending
pub mod Clip
pub mod Blocks
pub mod Places
pub mod Rows
