pub mod SessionUnits
pub mod SessionSteps
pub mod SessionRest
pub mod SessionPush
pub mod SessionEnd
pub mod SourceGives
