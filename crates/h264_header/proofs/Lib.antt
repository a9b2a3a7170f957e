pub mod Entries
pub mod Named
pub mod SameMarking
pub mod Accepted
pub mod Ids
