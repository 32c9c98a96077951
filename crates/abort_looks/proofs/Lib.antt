-- The lemmas of the looks.
pub mod Looks
