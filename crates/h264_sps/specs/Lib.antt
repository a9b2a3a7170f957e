pub mod Hrd
pub mod Vui
pub mod VuiParts
pub mod Counting
pub mod Sps
pub mod Parts
pub mod Seen
pub mod Usable
