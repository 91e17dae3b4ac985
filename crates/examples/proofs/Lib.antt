pub mod Below
pub mod Places
pub mod Trace
pub mod Verdicts
pub mod Checks
pub mod Computed
pub mod Telling
