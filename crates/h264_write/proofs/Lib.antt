pub mod Spelled
pub mod Stands
pub mod Bytes
pub mod Tables
pub mod Escapes
