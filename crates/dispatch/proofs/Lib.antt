-- The lemmas of the calls by their kinds, in the order to read them.
pub mod Granting
pub mod Cases
