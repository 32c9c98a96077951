-- The lemmas about how calls end and what their steps ask, in the order to read them.
pub mod Ends
pub mod Tests
pub mod Conditions
pub mod Runner
