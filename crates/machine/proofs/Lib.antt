-- Facts about lists, of threads and of names.
pub mod Lists
-- A call in range whose caller lacks no right.
pub mod Permits
-- The grants, changed and sound.
pub mod Granted
-- The chooser, and who goes to the tail of its level, in every state.
pub mod Running
pub mod Tails
pub mod Woken
-- What holds in the middle of a call, and that every call keeps the tables sound.
pub mod Preserved
-- What a reader asks of single calls.
pub mod Calls
