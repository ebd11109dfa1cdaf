pub mod Heads
pub mod Laws
pub mod Model
pub mod Parcels
pub mod Steps
pub mod Views
pub mod Waits
