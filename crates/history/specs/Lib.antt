-- The history of a list of calls, and what is claimed of it.
pub mod Queues
pub mod Blocks
pub mod Sorts
pub mod History
pub mod Walk
pub mod Outcomes
pub mod Recorded
pub mod Claim
pub mod Tied
pub mod Heard
