pub mod Asking
pub mod Findings
pub mod Histories
pub mod Loads
pub mod Making
pub mod Placeables
pub mod Records
pub mod Runnings
