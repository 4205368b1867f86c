pub mod Faults
pub mod Sinks
pub mod Printouts
pub mod Standing
pub mod Order
pub mod Files
pub mod Reading
pub mod Runs
