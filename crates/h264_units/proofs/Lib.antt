pub mod Streams
pub mod Total
pub mod Longest
pub mod Scans
pub mod Plans
pub mod Taking
pub mod UnitNumbers
