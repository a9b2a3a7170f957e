pub mod Queued
pub mod Decoded
pub mod Givens
pub mod Accounting
pub mod Sending
