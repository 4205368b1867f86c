pub mod Effects
pub mod Places
pub mod Stepping
pub mod Fitting
pub mod Ascents
pub mod Surveys
pub mod Building
