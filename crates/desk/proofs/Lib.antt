mod Together
pub mod Composing
pub mod Gotten
pub mod Lawful
pub mod Lines
pub mod Resting
pub mod Serving
