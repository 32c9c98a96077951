-- What the parts of call 12 come to.
pub mod Aborts
