pub mod Carrying
pub mod Telling
