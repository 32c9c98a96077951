-- What the calls that may wait have in common.
pub mod Waiting
