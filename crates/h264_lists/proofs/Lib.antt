pub mod Order
pub mod Turns
pub mod Sorted
pub mod Held
