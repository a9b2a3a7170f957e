pub mod KeepsEntered
pub mod HoldsCoded
pub mod KeepsOutput
pub mod WhereMade
