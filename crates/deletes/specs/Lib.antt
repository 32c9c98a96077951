-- What a delete asks in the middle, and what its removal of waiters comes to.
pub mod Deletes
