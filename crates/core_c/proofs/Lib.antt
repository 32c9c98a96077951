-- The lemma of who runs.
pub mod Runner
