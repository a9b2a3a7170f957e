pub mod Emulation
pub mod Rbsp
pub mod Found
