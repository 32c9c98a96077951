-- The lemmas of an abort's work, in the order to read them.
pub mod Working
pub mod Joined
