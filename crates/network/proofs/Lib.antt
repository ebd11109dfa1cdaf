pub mod AbstractKeeps
pub mod AbstractLaws
pub mod AbstractLists
pub mod AbstractLogs
pub mod AbstractMoves
pub mod AbstractParts
pub mod AbstractReached
pub mod AbstractShows
pub mod AbstractSteps
pub mod Agree
pub mod Alone
mod Cases
pub mod Counting
mod Crashes
pub mod Effects
pub mod Exchange
pub mod Fair
pub mod FairRuns
pub mod Fetch
pub mod Gather
pub mod Growth
pub mod Guests
pub mod Handed
pub mod Handing
mod Harmless
pub mod Hosting
pub mod Histories
pub mod Holds
pub mod Huts
pub mod KeptOut
pub mod Knowing
pub mod Lacking
pub mod Lawful
pub mod Leading
pub mod Leaving
pub mod Learned
pub mod Lasting
pub mod LastingCommits
pub mod Late
pub mod LateGrowth
pub mod LateLetters
pub mod LateRuns
pub mod LateWhole
mod Lettered
pub mod Letters
pub mod Lists
pub mod Logs
pub mod LowestRefusals
pub mod Mailed
pub mod Marks
pub mod Missing
pub mod MissingEntries
pub mod Moves
pub mod Next
pub mod NextSettled
pub mod NextWaiting
pub mod Numbers
mod PageGives
mod OfferedOrder
mod Offering
mod Outcomes
pub mod Parts
pub mod Promises
pub mod Putting
pub mod Reached
pub mod Refining
pub mod Refusals
pub mod Refusing
pub mod Room
pub mod Rounds
pub mod Safety
pub mod Same
pub mod Segments
pub mod Sending
mod Serving
pub mod Settle
pub mod Settling
mod Sessions
pub mod Shown
mod Slipping
pub mod Sorting
pub mod Spread
pub mod Stages
pub mod Standing
pub mod Stands
pub mod Steps
pub mod Taken
pub mod Taking
mod TakingOn
pub mod Tests
mod ToldChange
pub mod Valid
pub mod Walk
pub mod WalksAgree
pub mod WalksBring
pub mod WalksSettle
pub mod Whole
pub mod Writing
