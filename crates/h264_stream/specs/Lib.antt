pub mod Queue
pub mod Decoding
pub mod Given
pub mod Whole
pub mod Noted
pub mod Sent
