-- The inner steps of send and receive.
pub mod Transfers
