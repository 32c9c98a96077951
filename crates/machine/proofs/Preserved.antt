-- What holds in the middle of a call, and that every call keeps the tables sound.
pub mod Mid
pub mod Parts
pub mod Ready
pub mod Sites
pub mod Waking
pub mod Choosing
pub mod Statuses
pub mod Debts
pub mod AbortSteps
pub mod Deletes
pub mod Aborts
pub mod Threads
pub mod Transfers
pub mod Interrupts
pub mod Steps
