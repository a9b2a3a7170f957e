mod Failing
mod Statuses
mod Texts
mod Explained
pub mod Told
mod Writing
mod ToldReads
mod Reopened
mod Answered
mod Endings
mod Further
mod StrictTold
mod Kept
mod PlainWords
mod ListsFound
