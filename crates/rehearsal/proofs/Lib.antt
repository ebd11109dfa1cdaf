mod Beside
pub mod Sending
