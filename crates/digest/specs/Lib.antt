pub mod Sha256
pub mod Progress
pub mod Fed
pub mod Laws
