pub mod Verdict
pub mod Runner
pub mod Wakings
