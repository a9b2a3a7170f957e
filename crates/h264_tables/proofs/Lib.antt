pub mod Entries
pub mod Columns
pub mod Rows
pub mod Prefixes
pub mod Within
