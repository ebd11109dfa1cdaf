pub mod Committing
pub mod Filling
pub mod Making
pub mod Orders
pub mod Redoing
pub mod Stepped
pub mod Taking
