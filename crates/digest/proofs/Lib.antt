pub mod WordBytes
pub mod Schedules
pub mod RoundByRound
pub mod BlockByBlock
pub mod Padding
pub mod Lengths
pub mod Parts
pub mod Examples
