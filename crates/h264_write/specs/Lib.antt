pub mod Written
pub mod Packed
pub mod Escaped
