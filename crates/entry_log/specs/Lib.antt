pub mod Logs
pub mod Order
pub mod Room
pub mod Texts
pub mod Vectors
pub mod Views
pub mod Waits
