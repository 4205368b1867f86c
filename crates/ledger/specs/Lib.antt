pub mod Rows
pub mod Faults
pub mod Calls
pub mod Packed
pub mod Empty
pub mod Clients
