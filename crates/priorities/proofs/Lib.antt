-- The lemmas of set priority, in the order to read them.
pub mod Places
pub mod Prioritising
