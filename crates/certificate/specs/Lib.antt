pub mod Ratios
pub mod Shares
pub mod Extending
pub mod Rounds
pub mod Walked
