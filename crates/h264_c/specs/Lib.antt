pub mod Numbers
pub mod Verdicts
pub mod Frames
pub mod Infos
