pub mod language
pub mod judged
pub mod kept
pub mod samples
