mod Bodies
pub mod Bytes
pub mod Codes
pub mod Counting
mod Counts
pub mod Exact
pub mod Few
mod HeardWhole
mod Judged
pub mod Lawful
pub mod Lettering
mod Looking
pub mod OneEntry
pub mod OneForm
mod OneLetter
mod Parts
pub mod Puts
mod RangeTests
pub mod Round
mod RowCodes
mod RowParts
mod Rowing
mod Signing
pub mod Sizes
mod Times
mod Torn
pub mod Trip
