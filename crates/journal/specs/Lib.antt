pub mod Finding
pub mod History
pub mod Keeping
pub mod Laws
pub mod Phases
pub mod Records
pub mod Views
