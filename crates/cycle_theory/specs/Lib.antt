pub mod Nets
pub mod Method
pub mod Theorems
pub mod Flows
pub mod Walk
pub mod Questions
