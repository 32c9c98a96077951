-- The lemmas of tick and yield.
pub mod Ticking
