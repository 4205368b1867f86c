pub mod Masks
pub mod Insertions
pub mod Units
pub mod Packing
pub mod Unpacking
pub mod Entering
