pub mod LeastSoFar
pub mod Tests
pub mod Multiplying
pub mod Leaving
pub mod Coefficients
pub mod Rounds
pub mod Passing
