pub mod Initial
pub mod Modified
pub mod Built
