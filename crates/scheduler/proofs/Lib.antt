-- The lemmas of the choice of who runs.
pub mod Choosing
