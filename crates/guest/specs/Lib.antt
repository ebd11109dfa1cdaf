pub mod Answers
pub mod Laws
pub mod Slips
