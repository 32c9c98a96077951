-- Facts about sublists, and lists of names.
pub mod Sublists
-- Demand 3: the invariant of a list of calls and its history, call by call, and the theorem.
pub mod Demand3
-- All who joined an abort hear its end.
pub mod Hearing
-- One name to open the machine and the history by, where a run is computed.
pub mod Computed
