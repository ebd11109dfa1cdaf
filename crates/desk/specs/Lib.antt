pub mod Composed
pub mod Failures
pub mod Laws
pub mod Guests
pub mod Replies
pub mod Said
pub mod Steps
pub mod Answers
