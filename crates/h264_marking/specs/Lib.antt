pub mod Frames
pub mod Window
pub mod Operations
pub mod Held
pub mod Gaps
pub mod Unused
pub mod Ended
pub mod Steady
